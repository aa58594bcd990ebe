-- Input whose end stays.
use Rattle.std.specs.Prelude.{◌≡◌, ◌==◌, ℕ, Bool, true, false, List, Option, Result, Ok, IfOk, OnErr}
use Rattle.std.specs.Io.KnownBytes.{ReadConsumes}

-- whether its end was met, and which bytes it has left, where they are known
pub record Input : Type 0 where
  pub ended : Bool
  pub left : Option (List ℕ)

-- What a read leaves: it takes bytes from the front of those that are left, and none but the last read meets the end. From then on there is nothing.
pub record Reads {E : Type 0} (was is : Input) (result : Result ℕ E) (into : List ℕ) : Type 0 where
  pub bytes : was.ended ≡ false → ReadConsumes was.left is.left result into
  pub meets_end : IfOk result (λ n. is.ended ≡ (n == 0))
  pub stays_ended : was.ended ≡ true → (result ≡ Ok 0) × (is ≡ was)
  pub same_end : OnErr result (is.ended ≡ was.ended)
