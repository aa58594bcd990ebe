-- One more member begins.
use Rattle.std.proofs.Common.{rules, false, ◌++◌, map, ap, ◌∙◌}
use Rattle.std.specs.Vec.Iter.{into_iter_items}
use Rattle.crew.specs.Shifts.{hand_of, hands_of}
use Rattle.crew.specs.steps.Working.{desk_of, new_desk}
use Rattle.crew.proofs.CrewLaws.{dropped_on, enlisted}
use Rattle.crew.proofs.crew.enlist.Goals as goal

pub enlisting-preserved : goal.enlisting-preserved
enlisting-preserved g c =
    let i = c.enlisting.invariant in
    record {
      desks =
          ap (λ ms. map (desk_of g.N.Dialer g.C.Clock) ms ++ map (new_desk c.args.site.now)
          (hands_of g.N.Dialer g.C.Clock (into_iter_items c.next.new.self) (into_iter_items c.next-in-Some.new.self))) c.push_reserved.ensures.items
          ∙ enlisted g.N.Dialer g.C.Clock c.args.site.now (desk_of g.N.Dialer g.C.Clock) c.enlisting.members.items _ c.in-Some.shelf _ _ c.in-Some-next.member _ _ _ i.desks
          c.in-Some.ensures.items c.in-Some-next.ensures.items (λ j. record { site = c.args.site.now; hand = hand_of g.N.Dialer g.C.Clock c.in-Some.shelf c.in-Some-next.member; ended = c.none_ended.ensures j; starved = false });
      count = search rules;
      few = search rules;
      rest = dropped_on _ _ _ _ _ _ i.rest c.in-Some-next.ensures.items c.push_reserved.ensures.len;
      room = search rules;
    }
