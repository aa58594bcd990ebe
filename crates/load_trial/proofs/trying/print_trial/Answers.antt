-- The text was printed, or there was no memory.
use Rattle.std.proofs.Common.{refl, inl, inr}
use Rattle.load_trial.proofs.trying.print_trial.Goals as goal

pub returns-in-Ok : goal.returns-in-Ok
returns-in-Ok g c = inl (c.in-Ok.text.items, c.in-Ok.ensures, rw c.as_slice.ensures.value at c.print_as.ensures)

pub returns-in-Err : goal.returns-in-Err
returns-in-Err g c = inr (record { status_is = refl; same = refl })
