use Rattle.std.proofs.Common.{◌≡◌, ◌+◌, ◌≤◌, ◌++◌, map, vec_len}
use Rattle.std.specs.Vec.{vec_capacity}
use Rattle.std.specs.Vec.Iter.{into_iter_items, into_iter_len}
use Rattle.std.specs.List.{All}
use Rattle.vault_turns.specs.Listing.{IsListed}
use Rattle.vault.proofs.pass.seat_all.Given as goal

abbrev pub invariant-seating : goal.invariant-seating
invariant-seating l =
    record {
      known : map (λ p. p.known) l.room.items ++ into_iter_items l.queue ≡ l.fn.made.items;
      shown : All (λ p. p.shown ≡ l.listed.note) l.room.items;
      viewers : All (λ v. v ≡ l.listed.note) l.viewers.items;
      listed : All (λ p. IsListed p.seen l.listed.note l.listed.whole) (into_iter_items l.queue);
      count : vec_len l.room + into_iter_len l.queue ≡ vec_len l.fn.made;
      many : into_iter_len l.queue ≤ vec_len l.viewers;
      room : vec_capacity l.room ≡ vec_capacity l.fn.room;
    }

abbrev pub decreases-seating : goal.decreases-seating
decreases-seating l = into_iter_len l.queue
