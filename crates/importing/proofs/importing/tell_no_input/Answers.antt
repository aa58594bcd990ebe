-- Why there is no input.
use Rattle.std.proofs.Common.{refl}
use Rattle.importing.proofs.importing.tell_no_input.Goals as goal

pub returns-in-TooLong : goal.returns-in-TooLong
returns-in-TooLong g c stored refused = rw c.in-TooLong.is (refl, c.print_as.ensures)

pub returns-in-Failed : goal.returns-in-Failed
returns-in-Failed g c stored refused = rw c.in-Failed.is (refl, refl, refl)

pub returns-in-Memory : goal.returns-in-Memory
returns-in-Memory g c stored refused = rw c.in-Memory.is (refl, record { status_is = refl; same = refl })
