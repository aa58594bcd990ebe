-- What was kept is hung up, and the rest is served.
use Rattle.std.proofs.Common.{◌≡◌, ◌&&◌, [], length, ap, ◌∙◌, arith}
use Rattle.command.specs.Gates.{gate_told}
use Rattle.crew.specs.steps.Working.{desk_of, hung_up}
use Rattle.crew.proofs.CrewLaws.{finishes_by}
use Rattle.crew.proofs.crew.finish.Goals as goal

pub hang_up_all-requires : goal.hang_up_all-requires
hang_up_all-requires g c = record { out = λ t. omega (arith, c.requires t, ap (λ v. length v.items) c.replace-ended.ensures.value) }

pub serve_last-requires : goal.serve_last-requires
serve_last-requires g c = λ t. omega (arith, c.requires t, ap (λ v. length v.items) c.replace-ended.ensures.value, ap (λ k. k.out) (c.hang_up_all.ensures.logs t))

pub returns : goal.returns
returns g c =
    let kept = c.replace-ended.ensures.value in
    let now = desk_of g.N.Dialer g.C.Clock c.args.member.now in
    let same : record now { ended = c.replace-ended.new.dest.items } ≡ record now { ended = [] } =
    λ i. record now { ended = (ap (λ v. v.items) c.replace-ended.ensures.after ∙ c.new.ensures.items) i } in
    finishes_by g.S.Finder.alone g.S.Finder.told g.C.Clock.tells g.G.Gate.kept (g.G.Link.Link.tells && g.N.Link.Link.tells) g.G.Link.Link.tells _ (gate_told g.G.Gate c.args.gate.now) (gate_told g.G.Gate c.hang_up_all.new.gate) _ now
    (record now { ended = c.replace-ended.new.dest.items }) _ same
    (λ t. c.hang_up_all.ensures.logs t ∙ ap (λ v. hung_up g.G.Gate.kept v.items (g.G.Gate.connections c.args.gate.now)) kept)
    c.hang_up_all.ensures.same_closed c.hang_up_all.ensures.same_faults c.serve_last.ensures
