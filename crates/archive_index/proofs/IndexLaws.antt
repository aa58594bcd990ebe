-- An index that gains an entry behind all others.
use Rattle.std.proofs.Common.{◌≡◌, ◌≢◌, ℕ, ◌<◌, List, Option, Some, None, Result, Ok, Err, OnOk, OnErr, refl, sym, ap, subst, ◌∙◌, ⊎_elim, arith}
use Rattle.std.specs.Prelude.{Contains, IfSome}
use Rattle.std.specs.Cmp.Lexicographic.{slice_cmp}
use Rattle.std.specs.Ordering.{nat_cmp}
use Rattle.std.specs.declared.cmp.Ordering.TheVariants.{Equal}
use Rattle.index_entry.proofs.Entries.{Among-with_entry, InOrder-with_entry, with_number-some}
use Rattle.index_entry.proofs.Members.{Among, among_from_contains, contains_from_among}
use Rattle.index_entry.proofs.Orders.{both_equal, moment_tied}
use Rattle.index_entry.specs.Facts.{Facts}
use Rattle.index_entry.specs.Order.{moment_cmp, moment_of, order, with_entry}
use Rattle.index_entry.specs.Queries.{IsIndex, with_number}
use Rattle.capture.specs.declared.captured.Stored.{Stored}
use Rattle.httparse.specs.Grammar.{ResponseHead}
use Rattle.archive_volumes.specs.Entries.{EntersAs}
use Rattle.archive_volumes.specs.declared.entry.RecordAt.{RecordAt}

-- all of an index have lower numbers
abbrev pub AreBefore : List Facts → ℕ → Type 0
AreBefore index n = (other : Facts) → Contains index other → other.number < n

-- the number has no entry yet
pub none_there : (n : ℕ) (index : List Facts) → AreBefore index n → with_number n index ≡ None
none_there n index before = by (with_number n index) refl
  where
    by : (found : Option Facts) → with_number n index ≡ found → found ≡ None
    by None is = refl
    by (Some f) is =
        let there = with_number-some n index f is in
        absurd (omega (arith, before f (contains_from_among index f there.0), there.1))

not_tied : (e f : Facts) → f.number < e.number → order f e ≢ Equal
not_tied e f less tied =
    let both = both_equal (slice_cmp nat_cmp f.key e.key) (moment_cmp (moment_of f) (moment_of e)) tied in
    let same : f.number ≡ e.number = ap (λ m. m.1) (moment_tied (moment_of f) (moment_of e) both.1) in
    omega (arith, less, same)

-- the index with the entry is one
pub index_with : (entry : Facts) (index : List Facts) → IsIndex index → AreBefore index entry.number → IsIndex (with_entry entry index)
index_with entry index is before = record {
  in_order = InOrder-with_entry entry index is.in_order (λ f among. not_tied entry f (before f (contains_from_among index f among)));
  alone = λ a b has has₂ same. ⊎_elim
      (λ (here : entry ≡ a). ⊎_elim
      (λ (here₂ : entry ≡ b). sym here ∙ here₂)
      (λ (there : Among index b). absurd (omega (arith, before b (contains_from_among index b there), ap (λ (f : Facts). f.number) here, same)))
      (Among-with_entry entry index b (among_from_contains (with_entry entry index) b has₂)))
      (λ (there : Among index a). ⊎_elim
      (λ (here₂ : entry ≡ b). absurd (omega (arith, before a (contains_from_among index a there), ap (λ (f : Facts). f.number) here₂, same)))
      (λ (there₂ : Among index b). is.alone a b (contains_from_among index a there) (contains_from_among index b there₂) same)
      (Among-with_entry entry index b (among_from_contains (with_entry entry index) b has₂)))
      (Among-with_entry entry index a (among_from_contains (with_entry entry index) a has));
}

-- also where there was no memory for it
pub index_after : {T E : Type 0} (result : Result T E) (entry : Facts) (was now : List Facts) → IsIndex was → AreBefore was entry.number
    → OnOk result (now ≡ with_entry entry was) → OnErr result (now ≡ was) → IsIndex now
index_after (Ok done) entry was now is before with_it stays = subst IsIndex (sym with_it) (index_with entry was is before)
index_after (Err fault) entry was now is before with_it stays = subst IsIndex (sym stays) is

-- ---- the entry of a capture that is ready

-- it stands behind all others, where its number does
pub behind_at : (stored : Stored) (h : ResponseHead) (at : RecordAt) (index : List Facts) (entry : Option Facts) → EntersAs stored h at entry
    → ((other : Facts) → Contains index other → other.number < at.number)
    → IfSome entry (λ (e : Facts). (other : Facts) → Contains index other → other.number < e.number)
behind_at stored h at index None enters below = tt
behind_at stored h at index (Some e) enters below = λ other has. omega (arith, below other has, enters.number)
