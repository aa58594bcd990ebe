use Rattle.std.specs.Prelude.{All}
use Rattle.outside.specs.MemoryLink.{IsNew}
use Rattle.case_objects.proofs.made.links_of.Given as goal

abbrev pub invariant-loop-text : goal.invariant-loop-text
invariant-loop-text l = All IsNew l.links.items
