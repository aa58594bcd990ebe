-- A shelf goes on following a load.
use Rattle.std.proofs.Common.{◌≡◌, ◌⊎◌, ℕ, zero, suc, ◌+◌, ◌<◌, Bool, true, false, IsTrue, Ok, refl, sym, ap, subst, ◌∙◌, inl, inr, arith}
use Rattle.archive_shelf.specs.Answers.{Brings, HasStored}
use Rattle.archive_shelf.specs.Contents.{Contents}
use Rattle.archive_shelf.specs.Openings.{HasJust}
use Rattle.archive_shelf.specs.Told.{LooksOn, ReadsOn, Told}
use Rattle.archive_shelf.specs.Storing.{Storing, stored_by}
use Rattle.archive_shelf.specs.declared.receipt.Receipt.{Receipt}
use Rattle.capture.specs.Captures.{IsPayloadOf}
use Rattle.capture.specs.declared.book.Book.{Book}
use Rattle.capture.specs.declared.captured.Brought.{Brought}
use Rattle.capture.specs.declared.captured.Taken.{Taken}
use Rattle.capture.specs.declared.limits.Limits.{Limits}
use Rattle.load_maker.specs.Load.{brought_of, payload, taken_of}
use Rattle.load_shelf.specs.Loads.{Follows, HavePayloads, HoldsFirst, IsFilled}

-- what was seen and read stays
stays : (was is : Told) (seed count replayed : ℕ) → is.contents.tells ≡ was.contents.tells → is.contents.seen ≡ was.contents.seen → is.contents.limits ≡ was.contents.limits
    → is.reading ≡ was.reading → IsFilled was seed count replayed → IsFilled is seed count replayed
stays was is seed count replayed tells seen limits reading filled = record {
  told = tells ∙ filled.told;
  namespace = filled.namespace;
  holds = subst (λ l. HoldsFirst l.volume_bytes filled.namespace seed count is.contents.seen) (sym limits)
      (subst (λ b. HoldsFirst was.contents.limits.volume_bytes filled.namespace seed count b) (sym seen) filled.holds);
  just = subst (λ r. HasJust r is.contents.seen) (sym reading) (subst (λ b. HasJust was.reading b) (sym seen) filled.just);
  payloads = subst (λ b. HavePayloads seed replayed b) (sym seen) filled.payloads;
}

-- behind a look
pub looked : (alone : Bool) (was is : Told) (seed count replayed : ℕ) (follows : Bool) → LooksOn alone was is
    → Follows alone was seed count replayed follows → Follows alone is seed count replayed follows
looked true was is seed count replayed follows looks before alone so =
    let filled = before alone so in
    stays was is seed count replayed (ap (λ (c : Contents). c.tells) looks.looks.others) (ap (λ (c : Contents). c.seen) looks.looks.others) (ap (λ (c : Contents). c.limits) looks.looks.others)
    (looks.unwritten.reading alone filled.told) filled
looked false was is seed count replayed follows looks before alone so = absurd (let no : ⊥ = cc alone in no)

-- behind a read
pub read : (alone fault : Bool) (was is : Told) (seed count replayed : ℕ) (follows : Bool) → ReadsOn alone fault was is
    → Follows alone was seed count replayed follows → Follows alone is seed count replayed follows
read true fault was is seed count replayed follows reads before alone so =
    let filled = before alone so in
    stays was is seed count replayed (ap (λ (c : Contents). c.tells) reads.stays.others) reads.stays.seen (ap (λ (c : Contents). c.limits) reads.stays.others)
    (reads.unwritten.reading alone filled.told) filled
read false fault was is seed count replayed follows reads before alone so = absurd (let no : ⊥ = cc alone in no)

-- behind the store of the load's next capture
pub stored : (alone : Bool) (was is : Told) (seed count replayed : ℕ) (follows : Bool) (taken : Taken) (receipt : Receipt)
    → taken ≡ taken_of seed count → HasStored alone taken was.contents is.contents receipt
    → (IsTrue alone → IsTrue is.contents.tells → HasJust is.reading is.contents.seen)
    → Follows alone was seed count replayed follows → Follows alone is seed (count + 1) 0 follows
stored true was is seed count replayed follows taken receipt next has just before alone so =
    let told : is.contents.tells ≡ was.contents.tells = ap (λ (c : Contents). c.tells) has.others in
    let limits : was.contents.limits ≡ is.contents.limits = sym (ap (λ (c : Contents). c.limits) has.others) in
    let filled = before alone so in
    let rule = has.by_rule filled.told in
    let pair : (s : Storing was.contents.limits.volume_bytes has.found (taken_of seed count)) × (is.contents.seen ≡ stored_by s) =
    subst (λ (t : Taken). (s : Storing was.contents.limits.volume_bytes has.found t) × (is.contents.seen ≡ stored_by s)) next
    (rule.0, rule.2) in
    let found : HoldsFirst was.contents.limits.volume_bytes filled.namespace seed count has.found =
    subst (λ b. HoldsFirst was.contents.limits.volume_bytes filled.namespace seed count b) (sym has.led) filled.holds in
    let held : HoldsFirst was.contents.limits.volume_bytes filled.namespace seed (suc count) is.contents.seen =
    (has.found, found, pair.0, pair.1) in
    let one : suc count ≡ count + 1 = omega arith in
    record {
      told = told ∙ filled.told;
      namespace = filled.namespace;
      holds = subst (λ n. HoldsFirst is.contents.limits.volume_bytes filled.namespace seed n is.contents.seen) one
          (subst (λ (l : Limits). HoldsFirst l.volume_bytes filled.namespace seed (suc count) is.contents.seen) limits held);
      just = just alone (told ∙ filled.told);
      payloads = λ number lt. absurd (omega (arith, lt));
    }
stored false was is seed count replayed follows taken receipt next has just before alone so = absurd (let no : ⊥ = cc alone in no)

split : (n k : ℕ) → n < k + 1 → (n < k) ⊎ (n ≡ k)
split zero zero h = inr refl
split zero (suc k) h = inl (omega arith)
split (suc n) zero h = absurd (omega (arith, h))
split (suc n) (suc k) h = deeper (split n k (omega (arith, h)))
  where
    deeper : (n < k) ⊎ (n ≡ k) → (suc n < suc k) ⊎ (suc n ≡ suc k)
    deeper (inl lt) = inl (omega (arith, lt))
    deeper (inr e) = inr (ap (λ (m : ℕ). suc m) e)

one_more : (seed replayed : ℕ) (book : Book) → HavePayloads seed replayed book → IsPayloadOf book replayed (payload seed replayed)
    → HavePayloads seed (replayed + 1) book
one_more seed replayed book before this number lt = by (split number replayed lt)
  where
    by : (number < replayed) ⊎ (number ≡ replayed) → IsPayloadOf book number (payload seed number)
    by (inl less) = before number less
    by (inr e) = subst (λ n. IsPayloadOf book n (payload seed n)) (sym e) this

-- and where the next one was brought back as it was
pub replayed_one : (alone fault : Bool) (was is : Told) (seed count replayed : ℕ) (follows : Bool) (brought : Brought)
    → brought ≡ brought_of seed replayed → ReadsOn alone fault was is → Brings is.contents replayed (Ok brought)
    → Follows alone was seed count replayed follows → Follows alone is seed count (replayed + 1) follows
replayed_one alone fault was is seed count replayed follows brought same reads brings before lone so =
    let filled = read alone fault was is seed count replayed follows reads before lone so in
    let has = (brings.3 filled.told).0.has in
    let this : IsPayloadOf is.contents.seen replayed (payload seed replayed) =
    subst (λ p. IsPayloadOf is.contents.seen replayed p) (ap (λ (b : Brought). b.payload) same) has in
    record {
      told = filled.told;
      namespace = filled.namespace;
      holds = filled.holds;
      just = filled.just;
      payloads = one_more seed replayed is.contents.seen filled.payloads this;
    }
