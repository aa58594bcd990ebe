use Rattle.std.proofs.Common.{ap, length, arith}
use Rattle.std.specs.Vec.Iter.{into_iter_items}
use Rattle.outside.specs.MemoryLink.{IsNew}
use Rattle.outside.proofs.NewLinks.{All-left}
use Rattle.outside.proofs.memory.gate.MemoryGateGate.accept.Goals as goal

pub invariant_of-self-2 : goal.invariant_of-self-2
invariant_of-self-2 c =
    let links = into_iter_items c.self.inside.links in
    let left = into_iter_items c.next.new.self in
    let one_fewer = ap length c.in-Some.ensures.items in
    (All-left IsNew c.next.result links left c.next.ensures.items c.self.invariant.0, omega (arith, one_fewer))
