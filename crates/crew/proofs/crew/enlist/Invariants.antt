use Rattle.std.proofs.Common.{◌≡◌, ◌+◌, ◌≤◌, ◌++◌, drop, length, map, vec_len}
use Rattle.std.specs.Vec.{vec_capacity}
use Rattle.std.specs.Vec.Iter.{into_iter_items, into_iter_len}
use Rattle.crew.specs.Shifts.{hands_of}
use Rattle.crew.specs.steps.Working.{desk_of, new_desk}
use Rattle.crew.proofs.crew.enlist.Given as goal

abbrev pub invariant-enlisting : goal.invariant-enlisting
invariant-enlisting g l =
    record {
      desks : map (desk_of g.N.Dialer g.C.Clock) l.members.items ++ map (new_desk l.fn.site) (hands_of g.N.Dialer g.C.Clock (into_iter_items l.rest) (into_iter_items l.crew))
          ≡ map (new_desk l.fn.site) (hands_of g.N.Dialer g.C.Clock l.fn.shelves.items (into_iter_items l.fn.crew));
      count : vec_len l.members + into_iter_len l.rest ≡ vec_len l.fn.shelves;
      few : into_iter_len l.rest ≤ length (into_iter_items l.crew);
      rest : into_iter_items l.crew ≡ drop (vec_len l.members) (into_iter_items l.fn.crew);
      room : vec_capacity l.members ≡ vec_capacity l.fn.members;
    }

abbrev pub decreases-enlisting : goal.decreases-enlisting
decreases-enlisting g l = into_iter_len l.rest
