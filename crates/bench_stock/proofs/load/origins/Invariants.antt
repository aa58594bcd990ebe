use Rattle.std.specs.Prelude.{All}
use Rattle.outside.specs.MemoryLink.{IsNew}
use Rattle.bench_stock.proofs.load.origins.Given as goal

abbrev pub invariant-loop-i : goal.invariant-loop-i
invariant-loop-i l = All IsNew l.links.items
