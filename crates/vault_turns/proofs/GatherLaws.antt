-- An index of all entries of an archive, gathered by their numbers.
use Rattle.std.proofs.Common.{◌≡◌, ◌≢◌, ℕ, suc, ◌<◌, ◌≤◌, ◌==◌, Bool, true, false, IsTrue, List, [], length, cond, nat_lt, Option, Some, None, refl, sym, ap, subst, ◌∙◌, arith}
use Rattle.std.specs.Prelude.{Contains}
use Rattle.std.proofs.lemmas.Bool.{eqb-false, lt-ltb, le-ltb, ltb-true, ltb-false}
use Rattle.std.proofs.lemmas.Option.{slice_get_within}
use Rattle.capture.specs.Captures.{captures}
use Rattle.capture.specs.declared.book.Book.{Book}
use Rattle.index_entry.specs.Facts.{Facts}
use Rattle.index_entry.specs.OfBook.{AreEntries}
use Rattle.index_entry.specs.Order.{with_entry}
use Rattle.index_entry.specs.Queries.{IsIndex, with_number}
use Rattle.index_entry.proofs.Entries.{number_same, with_number-none, with_number-some}
use Rattle.index_entry.proofs.Members.{among_from_contains, contains_from_among}
use Rattle.archive_index.specs.Shown.{numbered}
use Rattle.archive_index.proofs.ShownLaws.{shown_all, shown_from}
use Rattle.index_snapshot.proofs.Bringing.{number_put}
use Rattle.vault_lists.proofs.FindingLaws.{number_here}
use Rattle.vault_turns.specs.Taking.{HasBelow, IsGathered}

-- ---- an entry more

lt_next : (n k : ℕ) → n ≢ k → (b : Bool) → nat_lt n k ≡ b → nat_lt n (suc k) ≡ b
lt_next n k apart true is = let less = ltb-true n k is in lt-ltb n (suc k) (omega (arith, less))
lt_next n k apart false is =
    let le : k ≤ n = ltb-false n k is in le-ltb n (suc k) (above n k apart le)
  where
    above : (a b : ℕ) → a ≢ b → b ≤ a → suc b ≤ a
    above a b apart le = grind arith

more_by : (source : List Facts) (k n : ℕ) (e : Facts) (b : Bool) → (e.number == n) ≡ b → e.number ≡ k → with_number k source ≡ Some e
    → cond b (Some e) (cond (nat_lt n k) (with_number n source) None) ≡ cond (nat_lt n (suc k)) (with_number n source) None
more_by source k n e true is here found =
    let same : n ≡ k = sym (number_same e.number n is) ∙ here in
    let less : nat_lt n (suc k) ≡ true = lt-ltb n (suc k) (omega (arith, same)) in
    sym (ap (λ (b : Bool). cond b (with_number n source) None) less ∙ (ap (λ (m : ℕ). with_number m source) same ∙ found))
more_by source k n e false is here found =
    let apart : n ≢ k = λ same. eqb-false e.number n is (here ∙ sym same) in
    ap (λ (b : Bool). cond b (with_number n source) None) (sym (lt_next n k apart (nat_lt n k) refl))

not_below : (k : ℕ) → nat_lt k k ≡ false
not_below k = le-ltb k k (omega arith)

none_there : (source index : List Facts) (k : ℕ) → HasBelow k source index → with_number k index ≡ None
none_there source index k has = has k ∙ ap (λ (b : Bool). cond b (with_number k source) None) (not_below k)

pub none_of : (source index : List Facts) (k : ℕ) (e : Facts) → HasBelow k source index → e.number ≡ k → with_number e.number index ≡ None
none_of source index k e has here = ap (λ (m : ℕ). with_number m index) here ∙ none_there source index k has

pub has_more : (source index new : List Facts) (k : ℕ) (e : Facts) → HasBelow k source index → e.number ≡ k → with_number k source ≡ Some e → new ≡ with_entry e index
    → HasBelow (suc k) source new
has_more source index new k e has here found is n =
    ap (λ (l : List Facts). with_number n l) is
    ∙ (number_put e index n (none_of source index k e has here)
    ∙ (ap (λ (o : Option Facts). cond (e.number == n) (Some e) o) (has n)
    ∙ more_by source k n e (e.number == n) refl here found))

same_by : (source : List Facts) (k n : ℕ) (b : Bool) → (k == n) ≡ b → with_number k source ≡ None
    → cond (nat_lt n k) (with_number n source) None ≡ cond (nat_lt n (suc k)) (with_number n source) None
same_by source k n true is none =
    let same : k ≡ n = number_same k n is in
    let nothing : with_number n source ≡ None = ap (λ (m : ℕ). with_number m source) (sym same) ∙ none in
    both (with_number n source) (nat_lt n k) (nat_lt n (suc k)) nothing
  where
    both : (o : Option Facts) (x y : Bool) → o ≡ None → cond x o None ≡ cond y o None
    both o true true is = refl
    both o true false is = is
    both o false true is = sym is
    both o false false is = refl
same_by source k n false is none =
    let apart : n ≢ k = λ same. eqb-false k n is (sym same) in
    ap (λ (b : Bool). cond b (with_number n source) None) (sym (lt_next n k apart (nat_lt n k) refl))

pub has_same : (source index : List Facts) (k : ℕ) → HasBelow k source index → with_number k source ≡ None → HasBelow (suc k) source index
has_same source index k has none n = has n ∙ same_by source k n (k == n) refl none

pub has_nothing : (source : List Facts) → HasBelow 0 source []
has_nothing source n = ap (λ (b : Bool). cond b (with_number n source) None) (sym (le-ltb n 0 (omega arith)))

-- ---- all of them

-- an entry of this list, under a number below the count
abbrev IsBelow : ℕ → List Facts → Facts → Type 0
IsBelow count source e = Contains source e × (e.number < count)

from_by : (source : List Facts) (count : ℕ) (e : Facts) (b : Bool) → nat_lt e.number count ≡ b → cond b (with_number e.number source) None ≡ Some e → IsBelow count source e
from_by source count e true less is = (contains_from_among source e (with_number-some e.number source e is).0, ltb-true e.number count less)
from_by source count e false less is = absurd (cc is)

module _ (count : ℕ) (source index : List Facts) (has : HasBelow count source index) where
  pub from_source : (e : Facts) → IsIndex index → Contains index e → IsBelow count source e
  from_source e of there =
      from_by source count e (nat_lt e.number count) refl (sym (has e.number) ∙ number_here index e of there)

  -- an entry of the list has another with its number in the index
  abbrev IsThere : ℕ → Type 0
  IsThere number = (entry : Facts) × Contains index entry × (entry.number ≡ number)

  there_by : (e : Facts) (found : Option Facts) → with_number e.number source ≡ found → Contains source e → e.number < count → IsThere e.number
  there_by e (Some f) is there less =
      let found : with_number e.number index ≡ Some f =
      has e.number ∙ (ap (λ (b : Bool). cond b (with_number e.number source) None) (lt-ltb e.number count less) ∙ is) in
      let some = with_number-some e.number index f found in
      (f, contains_from_among index f some.0, some.1)
  there_by e None is there less = absurd (with_number-none e.number source is e (among_from_contains source e there) refl)

  pub to_source : (e : Facts) → Contains source e → e.number < count → IsThere e.number
  to_source e there less = there_by e (with_number e.number source) refl there less

pub gathered_is : (tells : Bool) (book : Book) (source index : List Facts) → HasBelow (length (captures book)) source index → IsIndex index
    → (IsTrue tells → AreEntries book (numbered source)) → IsGathered tells book source index
gathered_is tells book source index has of shows = record {
  indexed = of;
  shown = λ e there. shown_all source e (from_source (length (captures book)) source index has e of there).0;
  below = λ e there. (from_source (length (captures book)) source index has e of there).1;
  of_book = λ told.
      let are = (shows told).of_book in
      let shown : (e : Facts) → Contains index e → Contains (numbered source) e =
      λ e there. shown_all source e (from_source (length (captures book)) source index has e of there).0 in
      record {
        each = λ e there. are.each e (shown e there);
        found = λ e stored there at. are.found e stored (shown e there) at;
        all = λ number stored at by_date.
            let one = are.all number stored at by_date in
            let less : number < length (captures book) = slice_get_within (captures book) number stored at in
            let has_it = to_source (length (captures book)) source index has one.0 (shown_from source one.0 one.1) (subst (λ (n : ℕ). n < length (captures book)) (sym one.2) less) in
            (has_it.0, has_it.1, has_it.2 ∙ one.2);
      };
}
