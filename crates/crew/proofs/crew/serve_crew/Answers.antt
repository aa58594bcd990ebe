-- The members begin, work, and are dismissed.
use Rattle.std.proofs.Common.{◌≡◌, ◌&&◌, Bool, ℕ, drop, length, map, vec_len, refl, sym, ap, ◌∙◌, subst}
use Rattle.std.specs.Vec.Iter.{into_iter_items}
use Rattle.crew.specs.Crews.{IsEnd}
use Rattle.crew.specs.Shifts.{AreShifts, GoOn, hands_of}
use Rattle.crew.specs.steps.Working.{HaveServed, desk_of, new_desk}
use Rattle.crew.proofs.CrewSums.{all_hung, both_true, crew_hands, end_by, go_on, idle_go_on, length_map, none_kept, others_stay, serves_none, shifts_are}
use Rattle.crew.proofs.crew.serve_crew.Goals as goal

pub returns-in_default-clause-serves : goal.returns-in_default-clause-serves
returns-in_default-clause-serves g c = λ t u.
    serves_none g.S.Finder.alone g.S.Finder.told g.C.Clock.tells g.G.Gate.kept g.G.Link.Link.tells c.args.site.now _ _ _ _ refl
    (ap (λ v. hands_of g.N.Dialer g.C.Clock v.items c.args.crew.now.items) c.lacking.ensures.0)

pub returns-in_default-clause-go_on : goal.returns-in_default-clause-go_on
returns-in_default-clause-go_on g c =
    subst (λ hs. GoOn g.S.Finder.alone g.S.Finder.told (hands_of g.N.Dialer g.C.Clock c.args.shelves.items c.args.crew.now.items) hs)
    (sym (ap (λ v. hands_of g.N.Dialer g.C.Clock v.items c.args.crew.now.items) c.lacking.ensures.0))
    (idle_go_on g.S.Finder.alone g.S.Finder.told g.C.Clock.tells g.G.Gate.kept g.G.Link.Link.tells c.args.site.now _)

pub work_at-worked-requires-clause-none : goal.work_at-worked-requires-clause-none
work_at-worked-requires-clause-none g c = λ κs outlives.
    none_kept g.S.Finder.alone g.S.Finder.told g.C.Clock.tells g.G.Gate.kept g.G.Link.Link.tells c.args.site.now
    (hands_of g.N.Dialer g.C.Clock c.args.shelves.items (into_iter_items c.into_iter-others.result)) _ c.enlist.ensures.desks

pub disband-starved-requires-clause-out : goal.disband-starved-requires-clause-out
disband-starved-requires-clause-out g c = λ t. c.work_at-worked.ensures.works.out t

pub returns-clause-serves : goal.returns-clause-serves
returns-clause-serves g c = λ t u.
    let w = c.work_at-worked.ensures.works in
    let after = map (desk_of g.N.Dialer g.C.Clock) c.work_at-worked.result.members.items in
    let have =
    subst (λ ds. HaveServed g.S.Finder.alone g.S.Finder.told g.C.Clock.tells g.G.Gate.kept (g.G.Link.Link.tells && g.N.Link.Link.tells) ds w.pasts after)
    (c.enlist.ensures.desks ∙ ap (λ ms. map (new_desk c.args.site.now) (hands_of g.N.Dialer g.C.Clock c.args.shelves.items ms)) (c.into_iter-others.ensures.rest ∙ ap (λ v. v.items) c.replace.ensures.value)) w.served in
    let hands : hands_of g.N.Dialer g.C.Clock c.disband-starved.new.shelves.items c.rejoin.new.crew.items ≡ map (λ d. d.hand) after =
    crew_hands g.N.Dialer g.C.Clock (λ m. m.shelf) (λ m. m.member) (desk_of g.N.Dialer g.C.Clock) (λ m. refl) c.work_at-worked.result.members.items _ _ c.disband-starved.new.crew.items _
    c.disband-starved.ensures.shelves c.disband-starved.ensures.crew c.rejoin.ensures in
    record {
      heards = map (map g.G.Gate.kept) w.pasts;
      shifts =
          subst (λ hs. AreShifts g.S.Finder.alone g.S.Finder.told (record { site = c.args.site.now; clock_tells = g.C.Clock.tells })
          (hands_of g.N.Dialer g.C.Clock c.args.shelves.items c.args.crew.now.items) (map (map g.G.Gate.kept) w.pasts) hs) (sym hands)
          (shifts_are g.S.Finder.alone g.S.Finder.told g.C.Clock.tells g.G.Gate.kept (g.G.Link.Link.tells && g.N.Link.Link.tells) c.args.site.now _ w.pasts after have
          (both_true g.G.Link.Link.tells g.N.Link.Link.tells t u));
      logged = c.disband-starved.ensures.logs t ∙ (w.hung t ∙ all_hung g.G.Gate.kept w.pasts (g.G.Gate.connections c.args.gate.now));
    }

pub returns-clause-go_on : goal.returns-clause-go_on
returns-clause-go_on g c =
    let w = c.work_at-worked.ensures.works in
    let after = map (desk_of g.N.Dialer g.C.Clock) c.work_at-worked.result.members.items in
    let have =
    subst (λ ds. HaveServed g.S.Finder.alone g.S.Finder.told g.C.Clock.tells g.G.Gate.kept (g.G.Link.Link.tells && g.N.Link.Link.tells) ds w.pasts after)
    (c.enlist.ensures.desks ∙ ap (λ ms. map (new_desk c.args.site.now) (hands_of g.N.Dialer g.C.Clock c.args.shelves.items ms)) (c.into_iter-others.ensures.rest ∙ ap (λ v. v.items) c.replace.ensures.value)) w.served in
    let hands : hands_of g.N.Dialer g.C.Clock c.disband-starved.new.shelves.items c.rejoin.new.crew.items ≡ map (λ d. d.hand) after =
    crew_hands g.N.Dialer g.C.Clock (λ m. m.shelf) (λ m. m.member) (desk_of g.N.Dialer g.C.Clock) (λ m. refl) c.work_at-worked.result.members.items _ _ c.disband-starved.new.crew.items _
    c.disband-starved.ensures.shelves c.disband-starved.ensures.crew c.rejoin.ensures in
    subst (λ hs. GoOn g.S.Finder.alone g.S.Finder.told (hands_of g.N.Dialer g.C.Clock c.args.shelves.items c.args.crew.now.items) hs) (sym hands)
    (go_on g.S.Finder.alone g.S.Finder.told g.C.Clock.tells g.G.Gate.kept (g.G.Link.Link.tells && g.N.Link.Link.tells) c.args.site.now _ w.pasts after have)

pub returns-clause-ended : goal.returns-clause-ended
returns-clause-ended g c =
    let w = c.work_at-worked.ensures.works in
    end_by c.disband-starved.result _ _ _ c.work_at-worked.result.status _ c.status_of.ensures
    (subst (λ (z : Bool × ℕ). IsEnd z.0 (g.G.Gate.faults c.args.gate.now) z.1 c.work_at-worked.result.status)
    (λ i. (sym c.disband-starved.ensures.same_closed i, sym c.disband-starved.ensures.same_faults i)) w.ended)

pub returns-clause-same_others : goal.returns-clause-same_others
returns-clause-same_others g c =
    let front = c.disband-starved.new.crew.items in
    let worked = c.work_at-worked.result.members in
    let long : length front ≡ vec_len c.args.shelves =
    ap length c.disband-starved.ensures.crew ∙ (length_map (λ m. m.member) worked.items
    ∙ (sym worked.ok.0 ∙ (c.work_at-worked.ensures.count ∙ c.enlist.ensures.count))) in
    ap (λ ms. drop (vec_len c.args.shelves) ms) c.rejoin.ensures
    ∙ others_stay front _ c.args.crew.now.items (vec_len c.args.shelves) long
    (c.enlist.ensures.rest ∙ ap (λ ms. drop (vec_len c.args.shelves) ms) (c.into_iter-others.ensures.rest ∙ ap (λ v. v.items) c.replace.ensures.value))
