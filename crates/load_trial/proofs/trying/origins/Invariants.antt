-- Each link is new.
use Rattle.std.specs.Prelude.{All}
use Rattle.outside.specs.MemoryLink.{IsNew}
use Rattle.load_trial.proofs.trying.origins.Given as goal

abbrev pub invariant-loop-number : goal.invariant-loop-number
invariant-loop-number l = All IsNew l.links.items
