use Rattle.std.proofs.Common.{◌≤◌}
use Rattle.vault_turns.specs.Taking.{HasBelow}
use Rattle.vault_turns.proofs.gathering.gathered_by_number.Given as goal

abbrev pub invariant-loop-number : goal.invariant-loop-number
invariant-loop-number g l = record { within : l.number ≤ l.count; has : HasBelow l.number l.archive.index l.index }
