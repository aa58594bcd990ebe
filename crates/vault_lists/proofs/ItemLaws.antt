-- Lists of books that are published.
use Rattle.std.proofs.Common.{◌≡◌, ◌⊎◌, ℕ, ◌<◌, ◌≤◌, Bool, IsTrue, List, [], ◌∷◌, ◌++◌, length, refl, sym, ap, subst, inl, inr, arith, append_assoc}
use Rattle.std.specs.Prelude.{Contains, Option, Some, None, option_to_list}
use Rattle.std.specs.Cmp.{nat_cmp_is}
use Rattle.std.specs.List.Sorted.{IsStrictlySortedBy}
use Rattle.std.specs.declared.cmp.Ordering.TheVariants.{Less}
use Rattle.std.proofs.lemmas.List.{append-nil, length-append}
use Rattle.capture.specs.Captures.{captures}
use Rattle.capture.specs.Growth.{Grows}
use Rattle.capture.specs.GrowthLaws.{GrowsFromItself, GrowthGoesOn, GrowthKeepsCaptures}
use Rattle.capture.specs.declared.book.Book.{Book}
use Rattle.capture.specs.declared.captured.Stored.{Stored}
use Rattle.index_entry.specs.Facts.{Facts}
use Rattle.index_entry.specs.OfBook.{AreEntries, AreOf, by_number}
use Rattle.index_entry.specs.Queries.{with_number}
use Rattle.index_entry.proofs.Entries.{with_number-some}
use Rattle.index_entry.proofs.Members.{Among, Among-append, Among-append_left, Among-append_right, all_among, all_from_among, among_from_contains, contains_from_among}
use Rattle.archive_index.specs.Shown.{numbered}
use Rattle.archive_index.proofs.ShownLaws.{numbered_sorted, shown_all, shown_from}
use Rattle.index_snapshot.specs.Entries.{entries_in}
use Rattle.vault_lists.specs.Items.{AreItems, GoBehind, book_in, brings_of, last_book, last_from, shown_in, tells_in}
use Rattle.vault_lists.specs.declared.item.Item.{Item}

-- ---- what an entry of a list is

in_joined : (xs ys : List Facts) (e : Facts) → Contains (xs ++ ys) e → Contains xs e ⊎ Contains ys e
in_joined xs ys e has =
    elim (Among-append xs ys e (among_from_contains (xs ++ ys) e has)) [
      | inl a ↦ inl (contains_from_among xs e a)
      | inr b ↦ inr (contains_from_among ys e b)
    ]

in_left : (xs ys : List Facts) (e : Facts) → Contains xs e → Contains (xs ++ ys) e
in_left xs ys e has = contains_from_among (xs ++ ys) e (Among-append_left xs ys e (among_from_contains xs e has))

in_right : (xs ys : List Facts) (e : Facts) → Contains ys e → Contains (xs ++ ys) e
in_right xs ys e has = contains_from_among (xs ++ ys) e (Among-append_right xs ys e (among_from_contains ys e has))

-- entries of a book, in another order
pub of_same : (book : Book) (xs ys : List Facts) → ((e : Facts) → Contains xs e → Contains ys e) → ((e : Facts) → Contains ys e → Contains xs e) → AreOf book xs
    → AreOf book ys
of_same book xs ys to back are = record {
  each = λ e has. are.each e (back e has);
  found = λ e stored has at. are.found e stored (back e has) at;
  all = λ number stored at by_date. let one = are.all number stored at by_date in (one.0, to one.0 one.1, one.2);
}

-- ---- lists in order of numbers

less_by : (a b : Facts) → a.number < b.number → by_number a b ≡ Less
less_by a b less = sym (nat_cmp_is a.number b.number Less less)

pub sorted_joined : (xs ys : List Facts) → IsStrictlySortedBy by_number xs → IsStrictlySortedBy by_number ys
    → ((a b : Facts) → Among xs a → Among ys b → a.number < b.number) → IsStrictlySortedBy by_number (xs ++ ys)
unfolding IsStrictlySortedBy
sorted_joined [] ys sx sy across = sy
sorted_joined (x ∷ xs) ys sx sy across = (
  all_from_among (λ (f : Facts). by_number x f ≡ Less) (xs ++ ys) (λ f h. elim (Among-append xs ys f h) [
    | inl a ↦ all_among (λ (g : Facts). by_number x g ≡ Less) xs sx.0 f a
    | inr b ↦ less_by x f (across x f (inl refl) b)
  ]),
  sorted_joined xs ys sx.1 sy (λ a b h k. across a b (inr h) k),
)

pub sorted_place : (place : Option Facts) → IsStrictlySortedBy by_number (option_to_list place)
unfolding IsStrictlySortedBy
sorted_place None = tt
sorted_place (Some e) = (tt, tt)

-- ---- books that have grown

module _ (keeps : GrowthKeepsCaptures) where
  count_grows : (a b : Book) → Grows a b → length (captures a) ≤ length (captures b)
  count_grows a b grow =
      let kept = keeps a b grow in omega (arith, ap (λ (l : List Stored). length l) kept.1, length-append (captures a) kept.0)

  -- numbers are below the count of the last book
  below_from : (told : Bool) (book : Book) (entries : List Facts) (items : List Item) → GoBehind told book entries items
      → ((e : Facts) → Among entries e → e.number < length (captures book))
      → (e : Facts) → Among (entries ++ entries_in brings_of items) e → e.number < length (captures (last_from book items))
  below_from told book entries [] go below e among = elim (Among-append entries [] e among) [ inl a ↦ below e a | inr none ↦ absurd none ]
  below_from told book entries (item ∷ items) go below e among =
      below_from told (book_in item) (entries ++ brings_of item) items go.1
      (λ f h. elim (Among-append entries (brings_of item) f h) [
        | inl a ↦ omega (arith, below f a, count_grows book (book_in item) go.0.grows)
        | inr b ↦ go.0.below f (contains_from_among (brings_of item) f b)
      ])
      e (subst (λ (l : List Facts). Among l e) (sym (append_assoc entries (brings_of item) (entries_in brings_of items))) among)

  pub all_below : (items : List Item) → AreItems items → (e : Facts) → Contains (entries_in brings_of items) e → e.number < length (captures (last_book items))
  all_below [] are e (k, within, is) = absurd (omega arith)
  all_below (item ∷ items) are e has =
      below_from item.told.value (book_in item) (brings_of item) items are.1 (λ f h. are.0.below f (contains_from_among (brings_of item) f h)) e
      (among_from_contains (brings_of item ++ entries_in brings_of items) e has)

  -- and not below that of the book before
  pub from_on : (told : Bool) (book : Book) (entries : List Facts) (items : List Item) → GoBehind told book entries items
      → (e : Facts) → Among (entries_in brings_of items) e → length (captures book) ≤ e.number
  from_on told book entries [] go e none = absurd none
  from_on told book entries (item ∷ items) go e among = elim (Among-append (brings_of item) (entries_in brings_of items) e among) [
    | inl a ↦ go.0.from e (contains_from_among (brings_of item) e a)
    | inr b ↦ omega (arith, from_on told (book_in item) (entries ++ brings_of item) items go.1 e b, count_grows book (book_in item) go.0.grows)
  ]

  sorted_behind : (told : Bool) (book : Book) (entries : List Facts) (items : List Item) → GoBehind told book entries items
      → IsStrictlySortedBy by_number (entries_in brings_of items)
  unfolding IsStrictlySortedBy
  sorted_behind told book entries [] go = tt
  sorted_behind told book entries (item ∷ items) go =
      sorted_joined (brings_of item) (entries_in brings_of items) go.0.in_order (sorted_behind told (book_in item) (entries ++ brings_of item) items go.1)
      (λ a b h k. omega (arith, go.0.below a (contains_from_among (brings_of item) a h), from_on told (book_in item) (entries ++ brings_of item) items go.1 b k))

  -- what is shown of a list is in order
  pub shown_sorted : (items : List Item) → AreItems items → IsStrictlySortedBy by_number (shown_in items)
  unfolding IsStrictlySortedBy
  shown_sorted [] are = tt
  shown_sorted (item ∷ items) are =
      sorted_joined (numbered (brings_of item)) (entries_in brings_of items) (numbered_sorted (brings_of item) are.0.indexed)
      (sorted_behind item.told.value (book_in item) (brings_of item) items are.1)
      (λ a b h k. omega (
        arith,
        are.0.below a (shown_from (brings_of item) a (contains_from_among (numbered (brings_of item)) a h)),
        from_on item.told.value (book_in item) (brings_of item) items are.1 b k,
      ))

-- the last book has grown from the first
pub grows_last : GrowsFromItself → GrowthGoesOn → (told : Bool) (book : Book) (entries : List Facts) (items : List Item) → GoBehind told book entries items
    → Grows book (last_from book items)
grows_last itself goes_on told book entries [] go = itself book
grows_last itself goes_on told book entries (item ∷ items) go =
    goes_on book (book_in item) (last_from (book_in item) items) go.0.grows (grows_last itself goes_on told (book_in item) (entries ++ brings_of item) items go.1)

-- ---- their entries

pub shows_same : (items : List Item) (e : Facts) → Contains (shown_in items) e → Contains (entries_in brings_of items) e
shows_same [] e has = has
shows_same (item ∷ items) e has = elim (in_joined (numbered (brings_of item)) (entries_in brings_of items) e has) [
  | inl a ↦ in_left (brings_of item) (entries_in brings_of items) e (shown_from (brings_of item) e a)
  | inr b ↦ in_right (brings_of item) (entries_in brings_of items) e b
]

pub same_shown : (items : List Item) (e : Facts) → Contains (entries_in brings_of items) e → Contains (shown_in items) e
same_shown [] e has = has
same_shown (item ∷ items) e has = elim (in_joined (brings_of item) (entries_in brings_of items) e has) [
  | inl a ↦ in_left (numbered (brings_of item)) (entries_in brings_of items) e (shown_all (brings_of item) e a)
  | inr b ↦ in_right (numbered (brings_of item)) (entries_in brings_of items) e b
]

of_last : (told : Bool) (book : Book) (entries : List Facts) (items : List Item) → GoBehind told book entries items → IsTrue told → AreOf book entries
    → AreOf (last_from book items) (entries ++ entries_in brings_of items)
of_last told book entries [] go yes_told are = subst (λ (l : List Facts). AreOf book l) (sym (append-nil entries)) are
of_last told book entries (item ∷ items) go yes_told are =
    subst (λ (l : List Facts). AreOf (last_from (book_in item) items) l) (append_assoc entries (brings_of item) (entries_in brings_of items))
    (of_last told (book_in item) (entries ++ brings_of item) items go.1 yes_told (go.0.of_book yes_told))

-- where the disk is told, they are those of the last book
pub all_of_last : (items : List Item) → AreItems items → IsTrue (tells_in items) → AreOf (last_book items) (entries_in brings_of items)
all_of_last [] are told = absurd (cc told)
all_of_last (item ∷ items) are told = of_last item.told.value (book_in item) (brings_of item) items are.1 told (are.0.of_book told)

pub shown_entries : GrowthKeepsCaptures → (items : List Item) → AreItems items → IsTrue (tells_in items) → AreEntries (last_book items) (shown_in items)
shown_entries keeps items are told = record {
  in_order = shown_sorted keeps items are;
  of_book = of_same (last_book items) (entries_in brings_of items) (shown_in items) (same_shown items) (shows_same items) (all_of_last items are told);
}

-- ---- lists that go on

pub last_joined : (book : Book) (items more : List Item) → last_from book (items ++ more) ≡ last_from (last_from book items) more
last_joined book [] more = refl
last_joined book (item ∷ items) more = last_joined (book_in item) items more

pub behind_joined : (told : Bool) (book : Book) (entries : List Facts) (items more : List Item) → GoBehind told book entries items
    → GoBehind told (last_from book items) (entries ++ entries_in brings_of items) more → GoBehind told book entries (items ++ more)
behind_joined told book entries [] more go then = subst (λ (l : List Facts). GoBehind told book l more) (append-nil entries) then
behind_joined told book entries (item ∷ items) more go then = (
  go.0,
  behind_joined told (book_in item) (entries ++ brings_of item) items more go.1
      (subst (λ (l : List Facts). GoBehind told (last_from (book_in item) items) l more)
      (sym (append_assoc entries (brings_of item) (entries_in brings_of items))) then),
)

pub behind_front : (told : Bool) (book : Book) (entries : List Facts) (items more : List Item) → GoBehind told book entries (items ++ more)
    → GoBehind told book entries items
behind_front told book entries [] more go = tt
behind_front told book entries (item ∷ items) more go = (go.0, behind_front told (book_in item) (entries ++ brings_of item) items more go.1)

pub behind_rest : (told : Bool) (book : Book) (entries : List Facts) (items more : List Item) → GoBehind told book entries (items ++ more)
    → GoBehind told (last_from book items) (entries ++ entries_in brings_of items) more
behind_rest told book entries [] more go = subst (λ (l : List Facts). GoBehind told book l more) (sym (append-nil entries)) go
behind_rest told book entries (item ∷ items) more go =
    subst (λ (l : List Facts). GoBehind told (last_from (book_in item) items) l more) (append_assoc entries (brings_of item) (entries_in brings_of items))
    (behind_rest told (book_in item) (entries ++ brings_of item) items more go.1)

-- a number above all isn't there
none_by : (entries : List Facts) (n : ℕ) (found : Option Facts) → with_number n entries ≡ found → ((e : Facts) → Contains entries e → e.number < n) → found ≡ None
none_by entries n None is below = refl
none_by entries n (Some e) is below =
    let some = with_number-some n entries e is in
    absurd (omega (arith, below e (contains_from_among entries e some.0), some.1))

pub none_above : (entries : List Facts) (n : ℕ) → ((e : Facts) → Contains entries e → e.number < n) → with_number n entries ≡ None
none_above entries n below = none_by entries n (with_number n entries) refl below
