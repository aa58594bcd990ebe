use Rattle.std.proofs.Common.{arith}
use Rattle.archive_shelf.proofs.looked.Looked.none.Goals as goal

pub returns-clause-right : goal.returns-clause-right
returns-clause-right c tells book payload = record { within = omega arith; earlier = cc; finds = λ told some number less does. absurd (omega (arith, less)) }
