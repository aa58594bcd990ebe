-- The names of the entries so far were given.
use Rattle.std.proofs.Common.{◌≡◌, ◌++◌, take}
use Rattle.memory_folder.specs.Entry.{names_of}
use Rattle.memory_folder.proofs.store.give_names.Given as goal

abbrev pub invariant-loop-entry : goal.invariant-loop-entry
invariant-loop-entry g l = g.N.Names.given l.names ≡ g.N.Names.given l.initial.names ++ names_of (take l.entry-index l.entries)
