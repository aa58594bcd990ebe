use Rattle.std.proofs.Common.{sym, ap, ◌∙◌, subst}
use Rattle.link_queue.specs.Serving.{Accepts}
use Rattle.link_queue.proofs.Shifts.{accepts_end}
use Rattle.link_queue.proofs.accepting.accept_until_end.Goals as goal

pub loop-preserved : goal.loop-preserved
loop-preserved g c = let i = c.loop.invariant in let e = c.in-Ok.ensures.put in (
  subst (λ xs. Accepts g.A.Acceptor.accepts c.args.acceptor.now xs c.accept_one.new.acceptor) (ap (λ s. s.put) (sym e.2)) (accepts_end g.A.Acceptor.accepts c.args.acceptor.now c.loop.acceptor c.accept_one.new.acceptor c.loop.share.put e.0 i.0 e.1),
  ap (λ s. s.parts) e.2 ∙ i.1,
  ap (λ s. s.taken) e.2 ∙ i.2,
)
