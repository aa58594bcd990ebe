use Rattle.std.proofs.Common.{◌≡◌, ◌+◌, [], ◌++◌, map, vec_len}
use Rattle.std.specs.Vec.{vec_capacity}
use Rattle.std.specs.Vec.Iter.{into_iter_items, into_iter_len}
use Rattle.std.specs.List.{All}
use Rattle.link_queue.proofs.serving.make_posts.Given as goal

abbrev pub invariant-making : goal.invariant-making
invariant-making g l =
    record {
      workers : map (λ p. p.worker) l.posts.items ++ into_iter_items l.rest ≡ l.fn.workers.items;
      idle : All (λ p. p.share.taken ≡ []) l.posts.items;
      count : vec_len l.posts + into_iter_len l.rest ≡ vec_len l.fn.workers;
      parts : l.all.parts + vec_len l.posts ≡ l.fn.all.parts;
      room : vec_capacity l.posts ≡ vec_capacity l.fn.posts;
      put : l.all.put ≡ l.fn.all.put;
      taken : l.all.taken ≡ l.fn.all.taken;
    }

abbrev pub decreases-making : goal.decreases-making
decreases-making g l = into_iter_len l.rest
