-- A binary search of a table of names finds a row exactly where the table has the name.
use Rattle.std.proofs.Common.{◌≡◌, ℕ, ◌<◌, ◌≤◌, zero, suc, ◌||◌, true, false, IsTrue, List, [], ◌∷◌, map, length, get_or, Result, Ok, Err, is_ok, refl, sym, ◌∙◌, ap, add-one, arith}
use Rattle.std.specs.Char.{to_ascii_lowercase}
use Rattle.std.specs.Cmp.{first_so, second_so}
use Rattle.std.specs.Cmp.Lexicographic.{slice_cmp, nat_list_cmp_total}
use Rattle.std.specs.List.{list_any, list_all}
use Rattle.std.specs.List.Sorted.{IsSearchInRange, IsBinarySearchResult, IsNonDecreasingBy, IsSortedBy}
use Rattle.std.specs.declared.cmp.Ordering.{Ordering}
use Rattle.std.specs.declared.cmp.Ordering.TheVariants.{Less, Equal, Greater}
use Rattle.std.specs.Ordering.{is_lt, is_eq, nat_cmp, ordering_index, ordering_reverse}
use Rattle.std.specs.Str.{bytes_eq, str_eq_ignore_ascii_case, str_to_ascii_lowercase}
use Rattle.std.proofs.lemmas.Bool.Decides.{nat_tests}
use Rattle.std.proofs.lemmas.List.Folds.{list_any_at, list_any_none}
use Rattle.std.proofs.lemmas.List.Sorted.{searchable_from_sorted}
use Rattle.std.proofs.lemmas.Map.Text.{is_eq-slice_cmp}
use Rattle.name_table.specs.NameTable.{is_named, is_row_byte, is_row, is_rising, is_table}

-- a byte of a row stays in lower case
lowercase_of_row_byte : (byte : ℕ) → IsTrue (is_row_byte byte) → to_ascii_lowercase byte ≡ byte
lowercase_of_row_byte byte h = grind (arith, nat_tests)

lowercase_of_row_bytes : (bytes : List ℕ) → IsTrue (list_all is_row_byte bytes) → str_to_ascii_lowercase bytes ≡ bytes
lowercase_of_row_bytes [] h = refl
lowercase_of_row_bytes (byte ∷ bytes) h =
    let first = lowercase_of_row_byte byte (first_so _ _ h) in
    let others = lowercase_of_row_bytes bytes (second_so _ _ h) in
    λ i. first i ∷ others i

lowercase_of_row : (row : List ℕ) → IsTrue (is_row row) → str_to_ascii_lowercase row ≡ row
lowercase_of_row [] h = refl
lowercase_of_row (byte ∷ bytes) h = lowercase_of_row_bytes (byte ∷ bytes) h

-- a row equals a name, case ignored, exactly where it compares as equal with the name in lower case
row_test : (row name : List ℕ) → IsTrue (is_row row) → str_eq_ignore_ascii_case row name ≡ is_eq (slice_cmp nat_cmp row (str_to_ascii_lowercase name))
row_test row name h = ap (λ r. bytes_eq r (str_to_ascii_lowercase name)) (lowercase_of_row row h) ∙ sym (is_eq-slice_cmp row (str_to_ascii_lowercase name))

-- what comes before doesn't come after
lt_reversed : (o : Ordering) → is_lt o ≡ true → is_lt (ordering_reverse o) ≡ false
lt_reversed Less h = refl
lt_reversed Equal h = refl
lt_reversed Greater h = cc

-- an item on either side of the place where a search ends isn't equal
not_equal : (o : Ordering) (k i : ℕ) → (k < i → o ≡ Less) → (i ≤ k → o ≡ Greater) → is_eq o ≡ false
not_equal Less k i before after = refl
not_equal Equal k i before after = grind (arith, before, after)
not_equal Greater k i before after = refl

module _ {X : Type 0} where
  -- a binary search answers whether some item compares as equal
  search_test : (ord : X → Ordering) (xs : List X) (r : Result ℕ ℕ) → IsSearchInRange r (length xs) → IsBinarySearchResult ord xs r → IsNonDecreasingBy (λ x. ordering_index (ord x)) xs → is_ok r ≡ list_any (λ x. is_eq (ord x)) xs
  search_test ord [] (Ok i) in_range found rising = absurd (omega arith)
  search_test ord [] (Err i) in_range found rising = refl
  search_test ord (x ∷ xs) (Ok i) in_range found rising = sym (list_any_at (λ y. is_eq (ord y)) (x ∷ xs) i x in_range (ap is_eq (found x)))
  search_test ord (x ∷ xs) (Err i) in_range parted rising =
      let point = parted rising in
      sym (list_any_none (λ y. is_eq (ord y)) (x ∷ xs) (λ k d below. not_equal (ord (get_or (x ∷ xs) k d)) k i (λ before. point.0 k d (omega arith) before) (λ after. point.1 k d after below)))

  module _ (text : X → List ℕ) where
    -- each row is below the next
    neighbours_rise : (rows : List X) → IsTrue (is_rising (map text rows)) → (k : ℕ) (d : X) → suc k < length rows → is_lt (slice_cmp nat_cmp (text (get_or rows k d)) (text (get_or rows (suc k) d))) ≡ true
    neighbours_rise [] rising k d below = absurd (omega arith)
    neighbours_rise (row ∷ []) rising k d below = absurd (omega arith)
    neighbours_rise (row ∷ next ∷ rows) rising zero d below = first_so _ _ rising
    neighbours_rise (row ∷ next ∷ rows) rising (suc k) d below = neighbours_rise (next ∷ rows) (second_so _ _ rising) k d (omega arith)

    -- the rows are sorted
    sorted : (rows : List X) → IsTrue (is_rising (map text rows)) → IsSortedBy (λ a b. is_lt (slice_cmp nat_cmp (text a) (text b))) rows
    sorted rows rising k d least below = rw (add-one, nat_list_cmp_total.antisymm (text (get_or rows (suc k) d)) (text (get_or rows k d))) (lt_reversed _ (neighbours_rise rows rising k d (omega arith)))

    -- a table has a name exactly where a row compares as equal with the name in lower case
    is_named_test : (rows : List X) (name : List ℕ) → IsTrue (list_all is_row (map text rows)) → is_named (map text rows) name ≡ list_any (λ row. is_eq (slice_cmp nat_cmp (text row) (str_to_ascii_lowercase name))) rows
    unfolding is_named
    is_named_test [] name in_lower_case = refl
    is_named_test (row ∷ rows) name in_lower_case =
        let first = row_test (text row) name (first_so _ _ in_lower_case) in
        let others = is_named_test rows name (second_so _ _ in_lower_case) in
        λ i. first i || others i

    -- a binary search of a table by the name in lower case answers whether the table has the name
    pub search_is_named : (rows : List X) (name : List ℕ) (r : Result ℕ ℕ) → IsTrue (is_table (map text rows)) → IsSearchInRange r (length rows) → IsBinarySearchResult (λ row. slice_cmp nat_cmp (text row) (str_to_ascii_lowercase name)) rows r → is_ok r ≡ is_named (map text rows) name
    search_is_named rows name r table in_range found =
        let rising = searchable_from_sorted nat_list_cmp_total text rows (str_to_ascii_lowercase name) (sorted rows (second_so _ _ table)) in
        search_test _ rows r in_range found rising ∙ sym (is_named_test rows name (first_so _ _ table))
