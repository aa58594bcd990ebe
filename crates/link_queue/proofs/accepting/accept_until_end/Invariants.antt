use Rattle.std.proofs.Common.{◌≡◌}
use Rattle.link_queue.specs.Serving.{Accepts}
use Rattle.link_queue.proofs.accepting.accept_until_end.Given as goal

abbrev pub invariant-loop : goal.invariant-loop
invariant-loop g l = Accepts g.A.Acceptor.accepts l.fn.acceptor l.share.put l.acceptor × (l.share.parts ≡ l.fn.share.parts) × (l.share.taken ≡ l.fn.share.taken)
