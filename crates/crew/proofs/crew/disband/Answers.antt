-- The first member that is left was dismissed.
use Rattle.std.proofs.Common.{rules, ◌≡◌, [], ◌++◌, map, refl, sym, ap, ◌∙◌}
use Rattle.std.specs.Vec.Iter.{into_iter_items}
use Rattle.link_queue.proofs.Shifts.{moved_on}
use Rattle.crew.specs.steps.Working.{all_ended, desk_of, hung_up}
use Rattle.crew.proofs.CrewLaws.{hung_none, hung_on, none_items, out_on, starved_on}
use Rattle.crew.proofs.crew.disband.Goals as goal

pub disbanding-preserved : goal.disbanding-preserved
disbanding-preserved g c =
    let i = c.disbanding.invariant in
    let first = c.in-Some.ensures.items in
    record {
      starved = starved_on (desk_of g.N.Dialer g.C.Clock) c.disbanding.starved c.either-starved.result c.in-Some.done _ _ _ i.starved first c.either-starved.ensures;
      logs = λ t. hung_on g.G.Gate.kept (λ m. (desk_of g.N.Dialer g.C.Clock m).ended) _ _ _ c.in-Some.done _ _ (λ ms. all_ended (map (desk_of g.N.Dialer g.C.Clock) ms)) (i.logs t) first refl (c.hang_up_all.ensures.logs t);
      out = λ t. out_on g.G.Gate.kept (λ m. (desk_of g.N.Dialer g.C.Clock m).ended) _ _ c.in-Some.done _ _ (λ ms. all_ended (map (desk_of g.N.Dialer g.C.Clock) ms)) (i.out t) first refl (c.hang_up_all.ensures.logs t);
      closed = search rules;
      faults = search rules;
      crew = ap (λ ms. ms ++ map (λ m. m.member) (into_iter_items c.next.new.self)) c.push_reserved.ensures.items ∙ moved_on (λ m. m.member) _ c.in-Some.done _ _ _ i.crew first;
      shelves = ap (λ ms. ms ++ map (λ m. m.shelf) (into_iter_items c.next.new.self)) c.push_reserved-in-Some.ensures.items ∙ moved_on (λ m. m.shelf) _ c.in-Some.done _ _ _ i.shelves first;
      count = search rules;
      number = search rules;
      room = search rules;
      place = search rules;
    }

pub returns-clause-logs : goal.returns-clause-logs
returns-clause-logs g c =
    let none : into_iter_items c.disbanding.rest ≡ [] = none_items c.disbanding.rest.rest.items c.disbanding.rest.rest.len c.disbanding.rest.rest.ok.0 c.in_default.ensures.cases.0 in
    λ t.
    sym (hung_none g.G.Gate.kept (g.G.Gate.connections c.disbanding.gate))
    ∙ (ap (λ ms. hung_up g.G.Gate.kept (all_ended (map (desk_of g.N.Dialer g.C.Clock) ms)) (g.G.Gate.connections c.disbanding.gate)) (sym none)
    ∙ c.disbanding.invariant.logs t)
