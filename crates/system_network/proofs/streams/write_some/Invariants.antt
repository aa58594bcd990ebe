-- An interrupted write appends nothing.
use Rattle.std.specs.Io.KnownBytes.{Keeps}
use Rattle.system_network.proofs.streams.write_some.Given as goal

abbrev pub invariant-loop : goal.invariant-loop
invariant-loop g l = Keeps (g.S.Write.contents l.initial.to) (g.S.Write.contents l.to)
