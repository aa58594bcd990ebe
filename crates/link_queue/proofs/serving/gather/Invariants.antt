use Rattle.std.proofs.Common.{◌≡◌, ◌+◌, ◌++◌, map, vec_len}
use Rattle.std.specs.Vec.{vec_capacity}
use Rattle.std.specs.Vec.Iter.{into_iter_items, into_iter_len}
use Rattle.link_queue.specs.Serving.{all_of}
use Rattle.link_queue.proofs.serving.gather.Given as goal

abbrev pub invariant-gathering : goal.invariant-gathering
invariant-gathering g l =
    record {
      workers : l.workers.items ++ map (λ p. p.worker) (into_iter_items l.rest) ≡ map (λ p. p.worker) l.fn.posts.items;
      count : vec_len l.workers + into_iter_len l.rest ≡ vec_len l.fn.posts;
      parts : l.all.parts ≡ l.fn.all.parts + vec_len l.workers;
      room : vec_capacity l.workers ≡ vec_capacity l.fn.workers;
      put : l.all.put ≡ l.fn.all.put;
      taken : l.all.taken ++ all_of (map (λ p. p.share.taken) (into_iter_items l.rest)) ≡ l.fn.all.taken ++ all_of (map (λ p. p.share.taken) l.fn.posts.items);
    }

abbrev pub decreases-gathering : goal.decreases-gathering
decreases-gathering g l = into_iter_len l.rest
