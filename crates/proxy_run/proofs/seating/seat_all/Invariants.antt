use Rattle.std.proofs.Common.{◌≡◌, ◌+◌, ◌++◌, vec_len}
use Rattle.std.specs.List.{All}
use Rattle.std.specs.Vec.{vec_capacity}
use Rattle.std.specs.Vec.Iter.{into_iter_items, into_iter_len}
use Rattle.vault.specs.Members.{IsMember}
use Rattle.proxy_run.proofs.seating.seat_all.Given as goal

abbrev pub invariant-seating : goal.invariant-seating
invariant-seating g l =
    record {
      all : l.shelves.items ++ into_iter_items l.rest ≡ l.fn.passes.items;
      members : All (λ p. IsMember g.J.Naming.vault p.known) (into_iter_items l.rest);
      count : vec_len l.shelves + into_iter_len l.rest ≡ vec_len l.fn.passes;
      room : vec_capacity l.shelves ≡ vec_capacity l.fn.shelves;
    }

abbrev pub decreases-seating : goal.decreases-seating
decreases-seating g l = into_iter_len l.rest
