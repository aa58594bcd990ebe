-- What is known of all passes of a new vault.
use Rattle.std.proofs.Common.{ℕ, zero, suc, List, [], ◌∷◌}
use Rattle.std.specs.Prelude.{IfSome, slice_get}
use Rattle.std.specs.List.{All}
use Rattle.std.proofs.lemmas.List.Elements.{All-cons, All-nil}

pub all_of : {A : Type 0} (Q : A → Type 0) (xs : List A) → ((k : ℕ) → IfSome (slice_get xs k) Q) → All Q xs
all_of Q [] each = All-nil Q
all_of Q (x ∷ xs) each = All-cons Q x xs (each zero) (all_of Q xs (λ k. each (suc k)))
