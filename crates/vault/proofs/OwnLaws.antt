-- A pass's own entries in a history that goes on.
use Rattle.std.proofs.Common.{◌≡◌, ◌≢◌, ℕ, Bool, true, false, List, [], ◌∷◌, ◌++◌, if◌then◌else◌, nat_eq, refl, ap, ◌∙◌, eqb-true}
use Rattle.std.proofs.lemmas.List.{append-nil}
use Rattle.history_lock.specs.Seen.{All, Apart, IsOther}
use Rattle.vault_turns.specs.History.{by_of}
use Rattle.vault_turns.specs.Own.{OwnEntriesStay, is_among, own_entries}
use Rattle.vault_turns.specs.declared.noted.Noted.{Noted}

apart_by : (numbers : List ℕ) (n m : ℕ) (b : Bool) → nat_eq n m ≡ b → n ≢ m → is_among numbers n ≡ false
    → (if b then true else is_among numbers n) ≡ false
apart_by numbers n m true is other none = absurd (other (eqb-true n m is))
apart_by numbers n m false is other none = none

-- a number that is none of these isn't among them
pub not_among : (numbers : List ℕ) (n : ℕ) → Apart n numbers → is_among numbers n ≡ false
not_among [] n apart = refl
not_among (m ∷ numbers) n apart = apart_by numbers n m (nat_eq n m) refl apart.0 (not_among numbers n apart.1)

pub none_own : (passes : ℕ) (numbers : List ℕ) (more : List Noted) → All (IsOther by_of passes numbers) more → own_entries numbers more ≡ []
none_own passes numbers [] others = refl
none_own passes numbers (noted ∷ more) others =
    ap (λ (b : Bool). if b then noted ∷ own_entries numbers more else own_entries numbers more) (not_among numbers noted.by others.0.0)
    ∙ none_own passes numbers more others.1

own_by : (numbers : List ℕ) (x : Noted) (xs ys : List Noted) (b : Bool) → own_entries numbers (xs ++ ys) ≡ own_entries numbers xs ++ own_entries numbers ys
    → (if b then x ∷ own_entries numbers (xs ++ ys) else own_entries numbers (xs ++ ys))
    ≡ (if b then x ∷ own_entries numbers xs else own_entries numbers xs) ++ own_entries numbers ys
own_by numbers x xs ys true is = ap (λ (l : List Noted). x ∷ l) is
own_by numbers x xs ys false is = is

pub own_append : (numbers : List ℕ) (xs ys : List Noted) → own_entries numbers (xs ++ ys) ≡ own_entries numbers xs ++ own_entries numbers ys
own_append numbers [] ys = refl
own_append numbers (x ∷ xs) ys = own_by numbers x xs ys (is_among numbers x.by) (own_append numbers xs ys)

pub own_stay : OwnEntriesStay
own_stay passes numbers seen history shows =
    ap (λ (l : List Noted). own_entries numbers l) shows.is_seen_and_more
    ∙ (own_append numbers seen shows.more
    ∙ (ap (λ (l : List Noted). own_entries numbers seen ++ l) (none_own passes numbers shows.more shows.of_others)
    ∙ append-nil (own_entries numbers seen)))
