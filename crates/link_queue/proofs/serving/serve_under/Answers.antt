use Rattle.std.proofs.Common.{ap, ◌∙◌}
use Rattle.link_queue.proofs.Shifts.{served_of}
use Rattle.link_queue.proofs.serving.serve_under.Goals as goal

pub returns-clause-served : goal.returns-clause-served
returns-clause-served g c = served_of g.A.Acceptor.accepts g.W.Worker.stays g.W.Worker.serves (λ p. p.worker) (λ p. p.share.taken) c.args.acceptor c.both.new.accepting.acceptor
    c.args.workers.items c.gather.new.workers.items c.make_posts.new.posts.items c.both.new.posts.items c.both.new.accepting.refused c.both.new.accepting.share.put c.gather.new.all.put
    c.both.new.accepting.share.taken c.gather.new.all.taken c.end-left.result.items c.both.ensures.accepted c.both.ensures.shifts c.make_posts.ensures.workers c.gather.ensures.workers c.gather.ensures.put
    (c.both.ensures.same.1 ∙ (c.make_posts.ensures.same.1 ∙ ap (λ a. a.taken) c.named-queue.ensures)) c.gather.ensures.taken c.end-left.ensures.whole
