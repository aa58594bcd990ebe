use Rattle.std.proofs.Common.{◌≡◌, ◌+◌, ◌≤◌, ◌||◌, ◌++◌, IsTrue, length, map, vec_len}
use Rattle.std.specs.Vec.{vec_capacity}
use Rattle.std.specs.Vec.Iter.{into_iter_items, into_iter_len}
use Rattle.crew.specs.steps.Working.{all_ended, any_starved, desk_of, hung_up}
use Rattle.crew.proofs.crew.disband.Given as goal

abbrev pub invariant-disbanding : goal.invariant-disbanding
invariant-disbanding g l =
    record {
      starved : (l.starved || any_starved (map (desk_of g.N.Dialer g.C.Clock) (into_iter_items l.rest))) ≡ any_starved (map (desk_of g.N.Dialer g.C.Clock) l.fn.members.items);
      logs : IsTrue g.G.Link.Link.tells → hung_up g.G.Gate.kept (all_ended (map (desk_of g.N.Dialer g.C.Clock) (into_iter_items l.rest))) (g.G.Gate.connections l.gate)
          ≡ hung_up g.G.Gate.kept (all_ended (map (desk_of g.N.Dialer g.C.Clock) l.fn.members.items)) (g.G.Gate.connections l.fn.gate);
      out : IsTrue g.G.Link.Link.tells → length (all_ended (map (desk_of g.N.Dialer g.C.Clock) (into_iter_items l.rest))) ≤ (g.G.Gate.connections l.gate).out;
      closed : g.G.Gate.closed l.gate ≡ g.G.Gate.closed l.fn.gate;
      faults : g.G.Gate.faults l.gate ≡ g.G.Gate.faults l.fn.gate;
      crew : l.crew.items ++ map (λ m. m.member) (into_iter_items l.rest) ≡ map (λ m. m.member) l.fn.members.items;
      shelves : l.shelves.items ++ map (λ m. m.shelf) (into_iter_items l.rest) ≡ map (λ m. m.shelf) l.fn.members.items;
      count : vec_len l.crew + into_iter_len l.rest ≡ vec_len l.fn.members;
      number : vec_len l.shelves + into_iter_len l.rest ≡ vec_len l.fn.members;
      room : vec_capacity l.crew ≡ vec_capacity l.fn.crew;
      place : vec_capacity l.shelves ≡ vec_capacity l.fn.shelves;
    }

abbrev pub decreases-disbanding : goal.decreases-disbanding
decreases-disbanding g l = into_iter_len l.rest
