use Rattle.std.proofs.Common.{sym, ap, ◌∙◌, subst}
use Rattle.link_queue.specs.Serving.{Serves}
use Rattle.link_queue.proofs.Shifts.{serves_end}
use Rattle.link_queue.proofs.post.serve_until_end.Goals as goal

pub loop-preserved : goal.loop-preserved
loop-preserved g c = let i = c.loop.invariant in let e = c.in-Ok.ensures.served in (
  subst (λ xs. Serves g.W.Worker.stays g.W.Worker.serves c.args.worker.now xs c.serve_one.new.worker) (ap (λ s. s.taken) (sym e.4))
      (serves_end g.W.Worker.stays g.W.Worker.serves c.args.worker.now c.loop.worker e.0 c.serve_one.new.worker c.loop.share.taken e.1 i.0 e.2 e.3),
  ap (λ s. s.parts) e.4 ∙ i.1,
  ap (λ s. s.put) e.4 ∙ i.2,
)
