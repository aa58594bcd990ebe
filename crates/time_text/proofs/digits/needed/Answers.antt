use Rattle.std.proofs.Common.{refl, arith}
use Rattle.time_text.proofs.digits.needed.Goals as goal

pub returns-then-is_multiple_of-clause-names : goal.returns-then-is_multiple_of-clause-names
returns-then-is_multiple_of-clause-names c = (5, omega arith, refl)
