-- What is found in a view is found among what is shown.
use Rattle.std.proofs.Common.{◌≡◌, ℕ, Bool, List, [], ◌∷◌, ◌++◌, filter, refl, sym, ap, subst, ◌∙◌, inl, inr}
use Rattle.std.specs.Prelude.{Contains, IfOk, Option, Some, None, Result, Ok, Err}
use Rattle.std.specs.List.Sorted.{IsStrictlySortedBy}
use Rattle.std.specs.Ordering.{nat_cmp}
use Rattle.std.specs.declared.cmp.Ordering.TheVariants.{Less}
use Rattle.std.proofs.lemmas.Cmp.{nat_cmp_total}
use Rattle.capture.specs.GrowthLaws.{GrowthKeepsCaptures}
use Rattle.index_entry.specs.Facts.{Facts}
use Rattle.index_entry.specs.OfBook.{by_number}
use Rattle.index_entry.specs.Order.{order}
use Rattle.index_entry.specs.Queries.{IsIndex, IsNearest, with_number}
use Rattle.index_entry.proofs.Entries.{with_number-none, with_number-some}
use Rattle.index_entry.proofs.Members.{Among, Among-filter, Among-append_right, Among-filter_back, Sorted-filter, all_among, among_from_contains, contains_from_among, not_below_itself}
use Rattle.index_entry.proofs.Orders.{order_total}
use Rattle.archive_shelf.specs.Queries.{ArePicked, IsFound}
use Rattle.index_snapshot.specs.Entries.{HasEntries, entries_in}
use Rattle.vault_lists.specs.Items.{AreItems, brings_of, shown_in}
use Rattle.vault_lists.specs.declared.item.Item.{Item}
use Rattle.vault_lists.proofs.ItemLaws.{same_shown, shown_sorted, shows_same}

-- ---- an index finds its entries by their numbers

here_by : (index : List Facts) (e : Facts) (found : Option Facts) → with_number e.number index ≡ found → IsIndex index → Contains index e → found ≡ Some e
here_by index e (Some f) is of has =
    let some = with_number-some e.number index f is in
    ap (λ (g : Facts). Some g) (of.alone f e (contains_from_among index f some.0) has some.1)
here_by index e None is of has = absurd (with_number-none e.number index is e (among_from_contains index e has) refl)

pub number_here : (index : List Facts) (e : Facts) → IsIndex index → Contains index e → with_number e.number index ≡ Some e
number_here index e of has = here_by index e (with_number e.number index) refl of has

-- ---- one entry a number

apart_by : (a b : Facts) → by_number a b ≡ Less → a.number ≡ b.number → ⊥
apart_by a b less same =
    not_below_itself nat_cmp nat_cmp_total a.number (subst (λ (n : ℕ). nat_cmp a.number n ≡ Less) (sym same) less)

one_in : (xs : List Facts) → IsStrictlySortedBy by_number xs → (a b : Facts) → Among xs a → Among xs b → a.number ≡ b.number → a ≡ b
unfolding IsStrictlySortedBy
one_in [] sorted a b h k same = absurd h
one_in (x ∷ xs) sorted a b (inl h) (inl k) same = sym h ∙ k
one_in (x ∷ xs) sorted a b (inl h) (inr k) same =
    absurd (apart_by x b (all_among (λ (f : Facts). by_number x f ≡ Less) xs sorted.0 b k) (ap (λ (f : Facts). f.number) h ∙ same))
one_in (x ∷ xs) sorted a b (inr h) (inl k) same =
    absurd (apart_by x a (all_among (λ (f : Facts). by_number x f ≡ Less) xs sorted.0 a h) (ap (λ (f : Facts). f.number) k ∙ sym same))
one_in (x ∷ xs) sorted a b (inr h) (inr k) same = one_in xs sorted.1 a b h k same

-- ---- what an index and its list hold

module _ (keeps : GrowthKeepsCaptures) (items : List Item) (fits : AreItems items) (index : List Facts) (of : IsIndex index)
    (has : HasEntries index (entries_in brings_of items)) where
  pub to_shown : (e : Facts) → Contains index e → Contains (shown_in items) e
  to_shown e there =
      let some = with_number-some e.number (entries_in brings_of items) e (sym (has e.number) ∙ number_here index e of there) in
      same_shown items e (contains_from_among (entries_in brings_of items) e some.0)

  found_by : (e : Facts) (found : Option Facts) → with_number e.number (entries_in brings_of items) ≡ found → Contains (shown_in items) e → Contains index e
  found_by e (Some f) is there =
      let some = with_number-some e.number (entries_in brings_of items) f is in
      let shown = same_shown items f (contains_from_among (entries_in brings_of items) f some.0) in
      let same : f ≡ e = one_in (shown_in items) (shown_sorted keeps items fits) f e (among_from_contains (shown_in items) f shown)
      (among_from_contains (shown_in items) e there) some.1 in
      let in_index = with_number-some e.number index f (has e.number ∙ is) in
      subst (λ (g : Facts). Contains index g) same (contains_from_among index f in_index.0)
  found_by e None is there =
      absurd (with_number-none e.number (entries_in brings_of items) is e
      (among_from_contains (entries_in brings_of items) e (shows_same items e there)) refl)

  pub from_shown : (e : Facts) → Contains (shown_in items) e → Contains index e
  from_shown e there = found_by e (with_number e.number (entries_in brings_of items)) refl there

  pub found_shown : (key : List ℕ) (time : ℕ) (entry : Option Facts) → IsFound index key time entry → IsFound (shown_in items) key time entry
  found_shown key time (Some entry) is = record {
    member = to_shown entry is.member;
    keyed = is.keyed;
    least = λ other there. is.least other (from_shown other there);
    first = λ other there. is.first other (from_shown other there);
  }
  found_shown key time None none = λ other there. none other (from_shown other there)

  pub picked_shown : (picks : Facts → Bool) (found : List Facts) → found ≡ filter picks index → ArePicked picks (shown_in items) found
  picked_shown picks found found_is =
      subst (λ (list : List Facts). ArePicked picks (shown_in items) list) (sym found_is) (record {
        in_order = Sorted-filter order order_total picks index of.in_order;
        picked = λ entry there. (Among-filter picks index entry (among_from_contains (filter picks index) entry there)).1;
        from = λ entry there. to_shown entry
            (contains_from_among index entry (Among-filter picks index entry (among_from_contains (filter picks index) entry there)).0);
        all = λ entry there passes. contains_from_among (filter picks index) entry
            (Among-filter_back picks index entry (among_from_contains index entry (from_shown entry there)) passes);
      })

-- ---- by its number

pub if_ok : {T E : Type 0} (r : Result T E) (P Q : T → Type 0) → ((x : T) → P x → Q x) → IfOk r P → IfOk r Q
if_ok (Ok x) P Q then p = then x p
if_ok (Err e) P Q then p = tt

pub by_its_number : (index : List Facts) (e : Facts) (n : ℕ) → IsIndex index → Contains index e → n ≡ e.number → with_number n index ≡ Some e
by_its_number index e n of there same = ap (λ (m : ℕ). with_number m index) same ∙ number_here index e of there

pub found_number : (index : List Facts) (key : List ℕ) (time n : ℕ) (e : Facts) → IsIndex index → IsNearest index key time e → n ≡ e.number
    → (found : Option Facts) → found ≡ with_number n index → IsFound index key time found
found_number index key time n e of near same found is =
    subst (λ (o : Option Facts). IsFound index key time o) (sym (is ∙ by_its_number index e n of near.member same)) near

pub there_of : (picks : Facts → Bool) (index done rest all : List Facts) (e : Facts) → filter picks index ≡ done ++ all → all ≡ e ∷ rest → Contains index e
there_of picks index done rest all e is first =
    let among : Among (done ++ e ∷ rest) e = Among-append_right done (e ∷ rest) e (inl refl) in
    contains_from_among index e (Among-filter picks index e
    (subst (λ (l : List Facts). Among l e) (sym (is ∙ ap (λ (l : List Facts). done ++ l) first)) among)).0
