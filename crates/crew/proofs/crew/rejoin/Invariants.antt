use Rattle.std.proofs.Common.{◌≡◌, ◌+◌, ◌++◌, length, vec_len}
use Rattle.std.specs.Vec.{vec_capacity}
use Rattle.std.specs.Vec.Iter.{into_iter_items, into_iter_len}
use Rattle.crew.proofs.crew.rejoin.Given as goal

abbrev pub invariant-joining : goal.invariant-joining
invariant-joining g l =
    record {
      all : l.crew.items ++ into_iter_items l.rest ≡ l.fn.crew.items ++ into_iter_items l.fn.others;
      count : vec_len l.crew + length (into_iter_items l.rest) ≡ vec_len l.fn.crew + length (into_iter_items l.fn.others);
      room : vec_capacity l.crew ≡ vec_capacity l.fn.crew;
    }

abbrev pub decreases-joining : goal.decreases-joining
decreases-joining g l = into_iter_len l.rest
