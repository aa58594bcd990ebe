use Rattle.std.proofs.Common.{◌≡◌}
use Rattle.link_queue.specs.Serving.{Serves}
use Rattle.link_queue.proofs.post.serve_until_end.Given as goal

abbrev pub invariant-loop : goal.invariant-loop
invariant-loop g l = Serves g.W.Worker.stays g.W.Worker.serves l.fn.worker l.share.taken l.worker × (l.share.parts ≡ l.fn.share.parts) × (l.share.put ≡ l.fn.share.put)
