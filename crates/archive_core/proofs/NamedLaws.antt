-- What the entries of an archive tell is what is kept of its captures, and what is brought of them.
use Rattle.std.proofs.Common.{◌≡◌, ℕ, ◌<◌, List, [], ◌∷◌, ◌++◌, length, Option, Some, None, Ok, refl, sym, ap, subst, ◌∙◌, ⊎_elim, arith}
use Rattle.std.specs.Prelude.{Contains, IfSome, slice_get}
use Rattle.std.proofs.lemmas.Option.{same_Some}
use Rattle.capture.specs.declared.captured.Brought.{Brought}
use Rattle.capture.specs.declared.captured.Stored.{Stored}
use Rattle.index_entry.specs.Facts.{Facts}
use Rattle.disk_model.specs.declared.disk.Disk.{Ghosts}
use Rattle.httparse.specs.Grammar.{ResponseHead}
use Rattle.warc_text.proofs.BookLaws.{get_behind}
use Rattle.archive_shelf.proofs.EntryLaws.{contains_entry}
use Rattle.archive_shelf.specs.Answers.{BringsAsShown, IsNamed}
use Rattle.archive_payloads.proofs.ChooseLaws.{there_is}
use Rattle.archive_reading.specs.Digests.{BringsDigest}
use Rattle.archive_volumes.specs.Entries.{AreNamed, EntersAs, IsNamedAs, entered}
use Rattle.archive_volumes.specs.Held.{stored_in}
use Rattle.archive_volumes.specs.Ready.{record_in, spot_in}
use Rattle.archive_volumes.specs.declared.entry.RecordAt.{RecordAt}
use Rattle.archive_volumes.specs.declared.ready.Ready.{Ready}
use Rattle.archive_volumes.specs.declared.spot.Spot.{Spot}
use Rattle.archive_volumes.specs.declared.volumes.Volumes.{Volumes}
use Rattle.archive_volumes.proofs.SpotLaws.{get_before}
use Rattle.archive_index.proofs.ShownLaws.{shown_from}
use Rattle.archive_core.specs.Holdings.{Holdings, IsArchive}
use Rattle.archive_index.specs.Shown.{numbered}

-- ---- a capture more

-- its entry, if it has one, tells what is kept of it
named_new : {D : Type 0} (now : Volumes D) (ready : Ready) (at : RecordAt) (n : ℕ) → at ≡ record_in now ready n → (h : ResponseHead) (entry : Option Facts)
    → EntersAs (stored_in ready.stored) h at entry → IfSome entry (IsNamedAs (spot_in now ready))
named_new now ready at n at_is h None enters = tt
named_new now ready at n at_is h (Some e) enters = record {
  uri = enters.uri;
  date = enters.date;
  digest = enters.digest ∙ ap (λ (a : RecordAt). a.digest) at_is;
}

-- and has its number
pub numbered_new : {D : Type 0} (now : Volumes D) (ready : Ready) (at : RecordAt) (n : ℕ) → at ≡ record_in now ready n → (count : ℕ) → n ≡ count → (h : ResponseHead)
    (entry : Option Facts) → EntersAs (stored_in ready.stored) h at entry → IfSome entry (λ (e : Facts). e.number ≡ count)
numbered_new now ready at n at_is count n_is h None enters = tt
numbered_new now ready at n at_is count n_is h (Some e) enters = enters.number ∙ ap (λ (a : RecordAt). a.number) at_is ∙ n_is

-- and that is behind those of all captures
pub before_at : {D : Type 0} (now : Volumes D) (ready : Ready) (at : RecordAt) (n count : ℕ) → at ≡ record_in now ready n → n ≡ count → (index : List Facts)
    → ((e : Facts) → Contains index e → e.number < count) → (other : Facts) → Contains index other → other.number < at.number
before_at now ready at n count at_is n_is index below other has =
    let number : at.number ≡ n = ap (λ (a : RecordAt). a.number) at_is in
    omega (arith, below other has, number, n_is)

named_with : (spots : List Spot) (spot : Spot) (index : List Facts) (entry : Option Facts) → AreNamed spots index
    → ((e : Facts) → Contains index e → e.number < length spots) → IfSome entry (λ (e : Facts). e.number ≡ length spots) → IfSome entry (IsNamedAs spot)
    → AreNamed (spots ++ spot ∷ []) (entered entry index)
named_with spots spot index None are below numbered_so new e has s at = are e has s (sym (get_before spots spot e.number (below e has)) ∙ at)
named_with spots spot index (Some entry) are below numbered_so new e has s at = ⊎_elim
    (λ (here : entry ≡ e).
    let same : spot ≡ s = same_Some spot s
    (sym (get_behind (spots ++ spot ∷ []) spots spot [] e.number refl (sym numbered_so ∙ ap (λ (f : Facts). f.number) here)) ∙ at) in
    subst (λ (x : Spot). IsNamedAs x e) same (subst (IsNamedAs spot) here new))
    (λ (before : Contains index e). are e before s (sym (get_before spots spot e.number (below e before)) ∙ at))
    (contains_entry entry index e has)

pub named_after : {D : Type 0} (now : Volumes D) (ready : Ready) (at : RecordAt) (n : ℕ) → at ≡ record_in now ready n → (h : ResponseHead) (entry : Option Facts)
    → EntersAs (stored_in ready.stored) h at entry → (spots : List Spot) (index : List Facts) → AreNamed spots index → (count : ℕ) → length spots ≡ count
    → ((e : Facts) → Contains index e → e.number < count) → IfSome entry (λ (e : Facts). e.number ≡ count)
    → (spots_now : List Spot) (index_now : List Facts) → spots_now ≡ spots ++ spot_in now ready ∷ [] → index_now ≡ entered entry index
    → AreNamed spots_now index_now
named_after now ready at n at_is h entry enters spots index are count counted below numbered_so spots_now index_now spots_are index_is =
    subst (λ (l : List Spot). AreNamed l index_now) (sym spots_are)
    (subst (AreNamed (spots ++ spot_in now ready ∷ [])) (sym index_is)
    (named_with spots (spot_in now ready) index entry are (λ e has. omega (arith, below e has, counted))
    (subst (λ (k : ℕ). IfSome entry (λ (e : Facts). e.number ≡ k)) (sym counted) numbered_so) (named_new now ready at n at_is h entry enters)))

-- as many captures, with the same entries
pub named_same : (spots now : List Spot) (index index_now : List Facts) → AreNamed spots index → now ≡ spots → index_now ≡ index → AreNamed now index_now
named_same spots now index index_now are spots_are index_is =
    subst (λ (l : List Spot). AreNamed l index_now) (sym spots_are) (subst (AreNamed spots) (sym index_is) are)

-- ---- what is brought

module _ {D : Type 0} (d : Ghosts D) (held : Holdings D) (number : ℕ) (is : IsArchive d held) where
  -- an entry that is shown under the number tells what is kept of its capture
  told_by : (entry : Facts) → Contains (numbered held.index) entry → entry.number ≡ number
      → (spot : Spot) × (slice_get held.spots number ≡ Some spot) × IsNamedAs spot entry
  told_by entry has at =
      let there = shown_from held.index entry has in
      let one = there_is held.spots entry.number (omega (arith, is.counted.below entry there, is.spots.count)) in
      (one.0, ap (λ (n : ℕ). slice_get held.spots n) (sym at) ∙ one.1, is.named entry there one.0 one.1)

  pub as_shown : (brought : Brought) → IsNamed held.book number brought
      → ((spot : Spot) → slice_get held.spots number ≡ Some spot → BringsDigest spot.digest (Ok brought))
      → BringsAsShown (numbered held.index) number brought
  as_shown brought names own entry has at =
      let one = told_by entry has at in
      let its = is.spots.each number one.0 one.1 in
      let same : its.stored ≡ names.stored = same_Some its.stored names.stored (sym its.placed ∙ names.placed) in (
        one.2.uri ∙ its.uri ∙ ap (λ (s : Stored). s.uri) same ∙ sym names.uri,
        one.2.date ∙ its.date ∙ ap (λ (s : Stored). s.date) same ∙ sym names.date,
        one.2.digest ∙ sym (own one.0 one.1),
      )

  pub digest_shown : (digest : List ℕ) → ((spot : Spot) → slice_get held.spots number ≡ Some spot → digest ≡ spot.digest)
      → (entry : Facts) → Contains (numbered held.index) entry → entry.number ≡ number → entry.digest ≡ digest
  digest_shown digest own entry has at = let one = told_by entry has at in one.2.digest ∙ sym (own one.0 one.1)
