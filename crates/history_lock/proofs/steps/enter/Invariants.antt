use Rattle.std.proofs.Common.{◌≡◌, ℕ, ◌%◌, ◌^◌, []}
use Rattle.history_lock.specs.declared.view.Stage.TheVariants.{Waits}
use Rattle.history_lock.specs.Phases.{IsSame}
use Rattle.history_lock.proofs.steps.enter.Given as goal

abbrev pub invariant-loop : goal.invariant-loop
invariant-loop g l = IsSame l.fn.seat l.seat × ((t : ℕ) × (l.ticket ≡ t % 2 ^ 64) × (l.seat.me ≡ (record l.fn.seat.me.0 { stage = Waits t }, [])))
