use Rattle.std.specs.Vec.Iter.{into_iter_items}
use Rattle.outside.specs.MemoryLink.{IsNew}
use Rattle.outside.proofs.NewLinks.{IsNew-next_link, All-left}
use Rattle.outside.proofs.memory.dialer.MemoryDialerDialer.dial.Goals as goal

pub invariant_of-self-2 : goal.invariant_of-self-2
invariant_of-self-2 c =
    let links = into_iter_items c.self.inside.links in
    let left = into_iter_items c.next.new.self in
    All-left IsNew c.next.result links left c.next.ensures.items c.self.invariant

pub returns-clause-as_new : goal.returns-clause-as_new
returns-clause-as_new c =
    rw (← c.self.view_is) (IsNew-next_link (into_iter_items c.self.inside.links) c.self.invariant)
