-- What is left of the entries so far.
use Rattle.std.proofs.Common.{◌≡◌, take}
use Rattle.memory_folder.specs.Entry.{left_entries}
use Rattle.memory_folder.proofs.entries.left_of.Given as goal

abbrev pub invariant-loop-entry : goal.invariant-loop-entry
invariant-loop-entry l = l.left.items ≡ left_entries l.budget (take l.entry-index l.entries)
