-- The steps so far are changed, and the others are as they were.
use Rattle.std.proofs.Common.{◌≡◌, ◌++◌, take, drop}
use Rattle.memory_folder.specs.Entry.{steps_synced}
use Rattle.memory_folder.proofs.entry.sync_steps.Given as goal

abbrev pub invariant-loop-step : goal.invariant-loop-step
invariant-loop-step l = l.steps ≡ steps_synced l.done (take l.step-index l.fn.steps) ++ drop l.step-index l.fn.steps
