-- Passes as they are seated.
use Rattle.std.proofs.Common.{◌≡◌, ℕ, zero, suc, Bool, IsTrue, List, [], ◌∷◌, Option, None, Some, map, sym, ap, subst, ◌∙◌}
use Rattle.std.specs.Prelude.{IfSome, slice_get}
use Rattle.std.specs.List.{All, AllByRecursion}
use Rattle.std.proofs.lemmas.List.Elements.{All-from_recursion, recursion_from_All}
use Rattle.capture.specs.GrowthLaws.{GrowthKeepsCaptures}
use Rattle.capture.specs.declared.book.Book.{Book}
use Rattle.capture.specs.declared.limits.Limits.{Limits}
use Rattle.index_entry.specs.OfBook.{AreEntries}
use Rattle.history_lock.specs.Known.{Known, LockId, newcomer}
use Rattle.index_snapshot.specs.Edges.{Edge}
use Rattle.index_snapshot.specs.Publishing.{Print, full_of}
use Rattle.vault_lists.specs.Items.{AreItems, last_book, shown_in, tells_in}
use Rattle.vault_lists.specs.declared.item.Item.{Item}
use Rattle.vault_lists.proofs.ItemLaws.{shown_entries}
use Rattle.vault.specs.Company.{Passing}
use Rattle.vault_turns.specs.History.{IsOpening, given_faults, is_told, sure_in}
use Rattle.vault_turns.specs.Listing.{IsListed}
use Rattle.vault.specs.Passes.{IsNew}
use Rattle.vault_turns.specs.declared.noted.Noted.{Noted}
use Rattle.vault_turns.specs.declared.noted.Sure.{Sure}

module _ {A : Type 0} (P : A → Type 0) where
  pub first_of : (x : A) (xs all : List A) → all ≡ x ∷ xs → All P all → P x
  first_of x xs all is h = (recursion_from_All P (x ∷ xs) (subst (All P) is h)).0

  pub rest_of : (x : A) (xs all : List A) → all ≡ x ∷ xs → All P all → All P xs
  rest_of x xs all is h = All-from_recursion P xs (recursion_from_All P (x ∷ xs) (subst (All P) is h)).1

  at_by : (xs : List A) → AllByRecursion P xs → (k : ℕ) → IfSome (slice_get xs k) P
  at_by [] h k = tt
  at_by (x ∷ xs) h zero = h.0
  at_by (x ∷ xs) h (suc k) = at_by xs h.1 k

  pub all_at : (xs : List A) → All P xs → (k : ℕ) → IfSome (slice_get xs k) P
  all_at xs h k = at_by xs (recursion_from_All P xs h) k

pub at_map : {A B : Type 0} (f : A → B) (Q : B → Type 0) (xs : List A) (k : ℕ) → IfSome (slice_get (map f xs) k) Q → IfSome (slice_get xs k) (λ x. Q (f x))
at_map f Q [] k h = tt
at_map f Q (x ∷ xs) zero h = h
at_map f Q (x ∷ xs) (suc k) h = at_map f Q xs k h

both_some : {A : Type 0} (P Q R : A → Type 0) → ((x : A) → P x → Q x → R x) → (o : Option A) → IfSome o P → IfSome o Q → IfSome o R
both_some P Q R then None p q = tt
both_some P Q R then (Some x) p q = then x p q

-- a pass that was just made knows the list
pub listed_of : (lock : LockId) (passes number : ℕ) (history : List Noted) (note : Edge Item) (whole : Bool) (pass : Option (Known Noted))
    → IsListed history note whole → IfSome pass (λ p. p ≡ newcomer lock passes number history) → IfSome pass (λ p. IsListed p.seen note whole)
listed_of lock passes number history note whole None listed is = tt
listed_of lock passes number history note whole (Some p) listed is =
    subst (λ (l : List Noted). IsListed l note whole) (sym (ap (λ (k : Known Noted). k.seen) is)) listed

module _ (keeps : GrowthKeepsCaptures) (tells : Bool) (sure : Sure) (faults : ℕ) (lock : LockId) (passes number : ℕ) (book : Book) (limits : Limits) (history : List Noted)
    (print : Print Item) (note : Edge Item) (note_is : note ≡ full_of print) (opens : IsOpening book limits history) (told : is_told history ≡ tells)
    (given : given_faults history ≡ faults) (sure_is : sure_in history ≡ sure)
    (fits : AreItems print.full) (list_told : tells_in print.full ≡ tells) (last : last_book print.full ≡ book) where
  new_pass : (p : Passing) → p.known ≡ newcomer lock passes number history → p.shown ≡ note → IsNew tells sure faults lock passes number book limits p
  new_pass p is shown =
      let seen : p.known.seen ≡ history = ap (λ (k : Known Noted). k.seen) is in
      record {
        made = record {
          is = is ∙ ap (λ (l : List Noted). newcomer lock passes number l) (sym seen);
          opens = subst (λ (l : List Noted). IsOpening book limits l) (sym seen) opens;
        };
        told = ap is_told seen ∙ told;
        given = ap given_faults seen ∙ given;
        sure_is = ap sure_in seen ∙ sure_is;
        shows = λ t.
            let items : p.shown.items ≡ print.full = ap (λ (e : Edge Item). e.items) (shown ∙ note_is) in
            subst (λ (l : List Item). AreEntries book (shown_in l)) (sym items)
            (subst (λ (b : Book). AreEntries b (shown_in print.full)) last
            (shown_entries keeps print.full fits (subst (λ (b : Bool). IsTrue b) (sym list_told) t)));
      }

  pub new_passes : (room : List Passing) (made : List (Known Noted)) (k : ℕ) → map (λ (p : Passing). p.known) room ≡ made → All (λ (p : Passing). p.shown ≡ note) room
      → IfSome (slice_get made k) (λ p. p ≡ newcomer lock passes number history) → IfSome (slice_get room k) (λ p. IsNew tells sure faults lock passes number book limits p)
  new_passes room made k known shown is =
      both_some (λ (p : Passing). p.known ≡ newcomer lock passes number history) (λ (p : Passing). p.shown ≡ note) (λ (p : Passing). IsNew tells sure faults lock passes number book limits p)
      new_pass (slice_get room k)
      (at_map (λ (p : Passing). p.known) (λ (q : Known Noted). q ≡ newcomer lock passes number history) room k
      (subst (λ (l : List (Known Noted)). IfSome (slice_get l k) (λ p. p ≡ newcomer lock passes number history)) (sym known) is))
      (all_at (λ (p : Passing). p.shown ≡ note) room shown k)
