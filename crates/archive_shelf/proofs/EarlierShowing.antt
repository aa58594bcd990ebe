-- What is shown of a book is shown of each book with a list of entries from which that has grown.
use Rattle.std.proofs.Common.{◌≡◌, ◌⊎◌, ℕ, ◌<◌, ◌≤◌, false, List, [], ◌∷◌, ◌++◌, length, refl, sym, ap, subst, ◌∙◌, inl, inr, arith}
use Rattle.std.specs.Prelude.{Contains}
use Rattle.std.specs.List.{AllByRecursion}
use Rattle.std.specs.List.Sorted.{IsStrictlySortedBy}
use Rattle.std.specs.declared.cmp.Ordering.TheVariants.{Less}
use Rattle.std.proofs.lemmas.Bool.{cases_lt}
use Rattle.std.proofs.lemmas.Cmp.{ranked}
use Rattle.std.proofs.lemmas.Option.{slice_get_within}
use Rattle.capture.specs.Captures.{captures}
use Rattle.capture.specs.Growth.{Grows}
use Rattle.capture.specs.declared.book.Book.{Book}
use Rattle.capture.specs.declared.captured.Stored.{Stored}
use Rattle.capture.proofs.GrowthLaws.{growth_goes_on, growth_keeps_captures}
use Rattle.capture.proofs.PayloadLaws.{captures_have_one}
use Rattle.index_entry.specs.Facts.{Facts}
use Rattle.index_entry.specs.OfBook.{AreEntries, IsEntryOf, by_number}
use Rattle.index_entry.proofs.Members.{Among, all_among, among_from_contains, contains_from_among}
use Rattle.index_entry.proofs.OneIndex.{one_entry}
use Rattle.warc_text.proofs.OneTextLaws.{one_group}
use Rattle.archive_shelf.specs.Contents.{Begins, Shows}
use Rattle.archive_shelf.proofs.ComparingLaws.{placed_before, placed_later}
use Rattle.archive_shelf.proofs.EntryLaws.{entries_stay}

-- ---- lists in order of number

less_of : (x y : Facts) → by_number x y ≡ Less → x.number < y.number
less_of x y less = ranked x.number y.number Less (sym less)

module _ (k : ℕ) where
  first_there : (x y : Facts) (xs : List Facts) → AllByRecursion (λ z. by_number x z ≡ Less) xs → y.number < x.number → (x ≡ y) ⊎ Among xs y → x ≡ y
  first_there x y xs below under (inl is) = is
  first_there x y xs below under (inr h) =
      let above = less_of x y (all_among (λ z. by_number x z ≡ Less) xs below y h) in
      absurd (omega (arith, above, under))

  first_same : (x y : Facts) (xs ys : List Facts) → AllByRecursion (λ z. by_number x z ≡ Less) xs → AllByRecursion (λ z. by_number y z ≡ Less) ys
      → (y ≡ x) ⊎ Among ys x → (y.number < k → (x ≡ y) ⊎ Among xs y) → x.number < k → x ≡ y
  first_same x y xs ys below below₂ (inl is) back low = sym is
  first_same x y xs ys below below₂ (inr h) back low =
      let under = less_of y x (all_among (λ z. by_number y z ≡ Less) ys below₂ x h) in
      first_there x y xs below under (back (omega (arith, under, low)))

  in_rest : (x y z : Facts) (ys : List Facts) → x ≡ y → by_number x z ≡ Less → (y ≡ z) ⊎ Among ys z → Among ys z
  in_rest x y z ys same below (inl is) =
      let under = less_of x z below in
      let same_number = ap (λ (f : Facts). f.number) (same ∙ is) in
      absurd (omega (arith, under, same_number))
  in_rest x y z ys same below (inr h) = h

  -- the first list holds just what the second one has below k: so it begins that
  abbrev Fronts : List Facts → List Facts → Type 0
  Fronts xs ys = (begins : Begins xs ys) × ((e : Facts) → Among begins.rest e → k ≤ e.number)

  none_below : (e : Facts) → (e.number < k → ⊥) → k ≤ e.number
  none_below e none = elim (cases_lt e.number k) [ inl less ↦ absurd (none less) | inr more ↦ more ]

  front : (xs ys : List Facts) → IsStrictlySortedBy by_number xs → IsStrictlySortedBy by_number ys → ((e : Facts) → Among xs e → Among ys e)
      → ((e : Facts) → Among ys e → e.number < k → Among xs e) → ((e : Facts) → Among xs e → e.number < k) → Fronts xs ys
  unfolding IsStrictlySortedBy
  front [] ys sx sy to back low = (record { rest = ys; joined = refl }, λ e there. none_below e (back e there))
  front (x ∷ xs) [] sx sy to back low = absurd (to x (inl refl))
  front (x ∷ xs) (y ∷ ys) sx sy to back low =
      let same : x ≡ y = first_same x y xs ys sx.0 sy.0 (to x (inl refl)) (back y (inl refl)) (low x (inl refl)) in
      let rest : Fronts xs ys = front xs ys sx.1 sy.1
      (λ z h. in_rest x y z ys same (all_among (λ w. by_number x w ≡ Less) xs sx.0 z h) (to z (inr h)))
      (λ z h less. in_rest y x z xs (sym same) (all_among (λ w. by_number y w ≡ Less) ys sy.0 z h) (back z (inr h) less))
      (λ z h. low z (inr h)) in
      (record { rest = rest.0.rest; joined = λ i. sym same i ∷ rest.0.joined i }, rest.1)

-- ---- the entries of a book, and of one that has grown from it

module _ (old new : Book) (grow : Grows old new) (entries shown : List Facts) (of : AreEntries old entries) (are : AreEntries new shown) where
  abbrev added : List Stored
  added = (growth_keeps_captures old new grow).0

  is_added : captures new ≡ captures old ++ added
  is_added = (growth_keeps_captures old new grow).1

  stays : (e : Facts) → Contains entries e → IsEntryOf new e.number e
  stays e here = entries_stay growth_keeps_captures old new e.number e grow (of.of_book.each e here)

  below : (e : Facts) → Among entries e → e.number < length (captures old)
  below e there =
      let is = of.of_book.each e (contains_from_among entries e there) in
      slice_get_within (captures old) e.number is.group.stored is.group.placed

  shown_too : (e : Facts) → Among entries e → Among shown e
  shown_too e there =
      let here = contains_from_among entries e there in
      let is = of.of_book.each e here in
      let found = are.of_book.all e.number is.group.stored (placed_later old new added is_added e.number is.group.stored is.group.placed)
      (of.of_book.found e is.group.stored here is.group.placed) in
      let same : e ≡ found.0 = one_entry (one_group captures_have_one) new e.number e found.0 (stays e here)
      (subst (λ (n : ℕ). IsEntryOf new n found.0) found.2 (are.of_book.each found.0 found.1)) in
      subst (λ (f : Facts). Among shown f) (sym same) (among_from_contains shown found.0 found.1)

  held_before : (e : Facts) → Among shown e → e.number < length (captures old) → Among entries e
  held_before e there less =
      let here = contains_from_among shown e there in
      let is = are.of_book.each e here in
      let found = of.of_book.all e.number is.group.stored (placed_before old new added is_added e.number is.group.stored less is.group.placed)
      (are.of_book.found e is.group.stored here is.group.placed) in
      let same : e ≡ found.0 = one_entry (one_group captures_have_one) new e.number e found.0 is
      (subst (λ (n : ℕ). IsEntryOf new n found.0) found.2 (stays found.0 found.1)) in
      subst (λ (f : Facts). Among entries f) (sym same) (among_from_contains entries found.0 found.1)

  fronts : Fronts (length (captures old)) entries shown
  fronts = front (length (captures old)) entries shown of.in_order are.in_order shown_too held_before below

pub shows_earlier : (old new : Book) (entries shown : List Facts) → AreEntries old entries → Grows old new → Shows false new shown → Shows false old shown
shows_earlier old new entries shown of grow knows =
    let later : Book = knows.5 in
    let grown : Grows old later = growth_goes_on old new later grow knows.6 in
    let begin = fronts old later grown entries shown of knows.7 in
    (entries, of, begin.0, knows.3, λ e there. begin.1 e (among_from_contains begin.0.rest e there), later, grown, knows.7)
