use Rattle.std.proofs.Common.{◌≡◌, ◌+◌, ◌++◌, vec_len}
use Rattle.std.specs.List.{All}
use Rattle.std.specs.Vec.{vec_capacity}
use Rattle.std.specs.Vec.Iter.{into_iter_items, into_iter_len}
use Rattle.vault.specs.Members.{IsMember}
use Rattle.proxy_run.proofs.seating.stand_up.Given as goal

abbrev pub invariant-rising : goal.invariant-rising
invariant-rising g l =
    record {
      all : l.passes.items ++ into_iter_items l.rest ≡ l.fn.shelves.items;
      members : All (λ p. IsMember g.J.Naming.vault p.known) l.passes.items;
      count : vec_len l.passes + into_iter_len l.rest ≡ vec_len l.fn.shelves;
      room : vec_capacity l.passes ≡ vec_capacity l.fn.passes;
    }

abbrev pub decreases-rising : goal.decreases-rising
decreases-rising g l = into_iter_len l.rest
