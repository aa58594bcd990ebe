-- None of the entries so far has the name.
use Rattle.std.proofs.Common.{◌≡◌, None, take}
use Rattle.memory_folder.specs.Entry.{found}
use Rattle.memory_folder.proofs.entries.place_of.Given as goal

abbrev pub invariant-loop-i : goal.invariant-loop-i
invariant-loop-i l = found (take l.i l.entries) l.name ≡ None
