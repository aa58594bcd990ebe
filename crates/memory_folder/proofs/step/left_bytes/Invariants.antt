-- What is left of the steps to come is left of all.
use Rattle.std.proofs.Common.{◌≡◌, drop}
use Rattle.memory_folder.specs.Entry.{left}
use Rattle.memory_folder.proofs.step.left_bytes.Given as goal

abbrev pub invariant-loop-step : goal.invariant-loop-step
invariant-loop-step l = left l.rest (drop l.step-index l.steps) l.bytes.items ≡ left l.fn.budget l.steps l.base
