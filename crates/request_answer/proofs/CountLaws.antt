-- What a round that met nothing leaves.
use Rattle.std.proofs.Common.{ℕ, false, IsTrue, refl, arith}
use Rattle.std.proofs.lemmas.Bool.{false≢true}
use Rattle.request_answer.specs.Traces.{CountsMet}

-- no fault was met
pub none_met : (x : ℕ) → CountsMet 0 x x
none_met x = record { rose = omega arith; steady = λ _. refl }

-- memory sufficed
pub sufficed : {P : Type 0} → IsTrue false → P
sufficed lacking = absurd (false≢true lacking)
