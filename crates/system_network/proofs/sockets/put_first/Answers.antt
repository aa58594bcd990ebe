-- Each address that comes is put or passed over.
use Rattle.std.proofs.Common.{sym, subst, arith}
use Rattle.std.specs.Iterator.{IsFinite, Yields}
use Rattle.system_network.proofs.AddressLaws.{none_put, put_next, put_over, within}
use Rattle.system_network.proofs.sockets.put_first.Goals as goal

pub loop-address-init : goal.loop-address-init
loop-address-init g c =
    let is = sym c.into_iter-address-iterator.ensures.into_iter_gives in (
      omega arith,
      none_put c.args.found.now,
      subst (λ it. g.I.Iterator.can_next it) is c.requires.ends.0,
      subst (λ it. IsFinite (g.I.Iterator.remaining it)) is c.requires.ends.1,
    )

pub loop-address-preserved-then-n-found : goal.loop-address-preserved-then-n-found
loop-address-preserved-then-n-found g c =
    let put = put_next c.loop-address.yielded c.args.found.now c.loop-address.found c.loop-address.n c.in-Some.address c.loop-address.invariant.1 c.if-n-found.true in
    let goes = c.in-Some.ensures.goes.on c.loop-address.invariant.3 in
    (within _ _ _ _ put, put, goes.0, goes.1)

pub loop-address-preserved : goal.loop-address-preserved
loop-address-preserved g c =
    let put = put_over c.loop-address.yielded c.args.found.now c.loop-address.found c.put_last.new.found c.loop-address.n c.in-Some.address c.loop-address.invariant.1 c.if-n-found.false c.put_last.ensures.none c.put_last.ensures.last in
    let goes = c.in-Some.ensures.goes.on c.loop-address.invariant.3 in
    (within _ _ _ _ put, put, goes.0, goes.1)

pub returns-clause-found : goal.returns-clause-found
returns-clause-found g c =
    let from = subst (λ it. Yields g.I.Iterator.next_gives it c.loop-address.yielded c.loop-address.address-iterator) c.into_iter-address-iterator.ensures.into_iter_gives c.loop-address.yielded_by in
    (c.loop-address.yielded, (c.next.new.self, (c.loop-address.address-iterator, from, c.in-None.ensures.steps)), c.loop-address.invariant.1)
