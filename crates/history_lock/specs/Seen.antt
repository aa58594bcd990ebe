-- Lists of entries: what a pass has seen of a list that only grows, and what a turn adds.
use Rattle.std.specs.Prelude.{◌≡◌, ◌≢◌, ℕ, ◌≤◌, List, [], ◌∷◌, ◌++◌}
use Rattle.history_lock.specs.Known.{Known}

-- the fact holds of each element
abbrev pub All : {A : Type 0} → (A → Type 0) → List A → Type 0
All P [] = Unit {0}
All P (x ∷ xs) = P x × All P xs

-- n is none of the numbers
abbrev pub Apart : ℕ → List ℕ → Type 0
Apart n ns = All (λ m. n ≢ m) ns

-- the entry names a pass, of those made, that has none of the numbers
abbrev pub IsOther : {E : Type 0} → (E → ℕ) → ℕ → List ℕ → E → Type 0
IsOther by passes numbers e = Apart (by e) numbers × (1 ≤ by e) × (by e ≤ passes)

-- The list found begins with what was seen. Behind it are entries of other passes alone
pub record Shows {E : Type 0} (by : E → ℕ) (passes : ℕ) (numbers : List ℕ) (seen found : List E) : Type 0 where
  pub more : List E
  pub is_seen_and_more : found ≡ seen ++ more
  pub of_others : All (IsOther by passes numbers) more

-- The list after is the list before and entries that name the pass. `then` holds of these
pub record Adds {E : Type 0} (by : E → ℕ) (number : ℕ) (before after : List E) (then : List E → Type 0) : Type 0 where
  pub added : List E
  pub is_before_and_added : after ≡ before ++ added
  pub of_pass : All (λ e. by e ≡ number) added
  pub done : then added

-- What a turn of a pass does: some list is found, which the pass's own seen list begins. What is seen after it is that list
-- and what the turn adds to it
pub record Turn {E : Type 0} (by : E → ℕ) (p : Known E) (after : List E) (does : List E → List E → Type 0) : Type 0 where
  pub found : List E
  pub shows : Shows by p.passes p.numbers p.seen found
  pub adds : Adds by p.number found after (does found)
