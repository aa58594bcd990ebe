-- Entries of one key stand in order of their dates.
use Rattle.std.proofs.Common.{◌≡◌, ℕ, ◌<◌, ◌≤◌, List, length, get_or, ap, sym, ◌∙◌, inl, inr, arith, Bool}
use Rattle.std.specs.Prelude.{Contains}
use Rattle.std.proofs.lemmas.Bool.{cases_lt}
use Rattle.std.proofs.lemmas.Cmp.{nat_list_cmp_total, tied_itself}
use Rattle.std.proofs.lemmas.List.Elements.{Contains-get_or}
use Rattle.std.proofs.lemmas.Map.Keys.{Less-from_sorted}
use Rattle.std.proofs.lemmas.Slice.Eq.{bytes_eq-Decides}
use Rattle.std.specs.Cmp.{nat_cmp_is}
use Rattle.std.specs.Cmp.Lexicographic.{slice_cmp}
use Rattle.std.specs.List.Sorted.{IsNonDecreasingBy, IsStrictlySortedBy}
use Rattle.std.specs.Ordering.{nat_cmp, ordering_then}
use Rattle.std.specs.declared.cmp.Ordering.TheVariants.{Less, Greater}
use Rattle.index_entry.specs.Facts.{Facts}
use Rattle.index_entry.specs.Order.{moment_cmp, moment_of, order}
use Rattle.archive_shelf.specs.Contents.{Contents}
use Rattle.request_answer.specs.steps.Looking.{FindsAll}

-- of two entries of one key the earlier has no later date
dates_apart : (a b : Facts) → a.key ≡ b.key → order a b ≡ Less → a.date ≤ b.date
dates_apart a b same less =
    let moments : order a b ≡ moment_cmp (moment_of a) (moment_of b) =
    ap (λ k. ordering_then (slice_cmp nat_cmp k b.key) (moment_cmp (moment_of a) (moment_of b))) same
    ∙ ap (λ o. ordering_then o (moment_cmp (moment_of a) (moment_of b))) (tied_itself nat_list_cmp_total b.key) in
    elim (cases_lt b.date a.date) [
      | inl later ↦
          let greater : nat_cmp a.date b.date ≡ Greater = sym (nat_cmp_is a.date b.date Greater later) in
          let wrong : moment_cmp (moment_of a) (moment_of b) ≡ Greater = ap (λ o. ordering_then o (nat_cmp a.number b.number)) greater in
          absurd (cc (moments, less, wrong))
      | inr within ↦ within
    ]

pub dates_in_order : (found : List Facts) (key : List ℕ) → IsStrictlySortedBy order found → ((entry : Facts) → Contains found entry → entry.key ≡ key)
    → IsNonDecreasingBy (λ (e : Facts). e.date) found
dates_in_order found key sorted keyed i j d below within = elim (cases_lt i j) [
  | inl less ↦
      let first : i < length found = omega (arith, less, within) in
      let one = keyed (get_or found i d) (Contains-get_or found i d first) in
      let other = keyed (get_or found j d) (Contains-get_or found j d within) in
      dates_apart (get_or found i d) (get_or found j d) (one ∙ sym other) (Less-from_sorted order found i j d sorted less within)
  | inr more ↦
      let same : i ≡ j = omega (arith, below, more) in
      omega (arith, ap (λ k. (get_or found k d).date) same)
]

-- all entries of a URL that are shown
pub listed_in_order : (alone : Bool) (now : Contents) (url : List ℕ) (found : List Facts) → FindsAll alone now url found
    → IsNonDecreasingBy (λ (e : Facts). e.date) found
listed_in_order alone now url found h =
    dates_in_order found h.key h.picked.in_order (λ entry there. sym ((bytes_eq-Decides h.key entry.key).0 (h.picked.picked entry there)))
