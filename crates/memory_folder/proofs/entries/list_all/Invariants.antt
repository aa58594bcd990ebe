-- The entries so far are changed, and the others are as they were.
use Rattle.std.proofs.Common.{◌≡◌, ◌++◌, take, drop}
use Rattle.memory_folder.specs.Entry.{all_listed}
use Rattle.memory_folder.proofs.entries.list_all.Given as goal

abbrev pub invariant-loop-entry : goal.invariant-loop-entry
invariant-loop-entry l = l.entries ≡ all_listed l.done (take l.entry-index l.fn.entries) ++ drop l.entry-index l.fn.entries
