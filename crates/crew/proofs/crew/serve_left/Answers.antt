-- One more of those that are left.
use Rattle.std.proofs.Common.{◌≡◌, ◌+◌, ◌&&◌, length, ap, subst, arith}
use Rattle.command.specs.Gates.{gate_told}
use Rattle.crew.specs.steps.Working.{ServesOn, desk_of}
use Rattle.crew.proofs.CrewLaws.{out_left, serves_on_none, serves_on_twice}
use Rattle.crew.proofs.crew.serve_left.Goals as goal

pub serving-init : goal.serving-init
serving-init g c = (0, omega arith, serves_on_none g.S.Finder.alone g.S.Finder.told g.C.Clock.tells g.G.Gate.kept (g.G.Link.Link.tells && g.N.Link.Link.tells) g.G.Link.Link.tells _ _, c.requires)

pub serve_through-requires : goal.serve_through-requires
serve_through-requires g c = λ t. omega (arith, c.serving.invariant.3 t, ap length c.in-Some.ensures.items)

pub serving-preserved : goal.serving-preserved
serving-preserved g c = let i = c.serving.invariant in (
  i.0 + 1,
  omega (arith, i.1, ap length c.in-Some.ensures.items),
  serves_on_twice g.S.Finder.alone g.S.Finder.told g.C.Clock.tells g.G.Gate.kept (g.G.Link.Link.tells && g.N.Link.Link.tells) g.G.Link.Link.tells i.0 1 _ _ _ _ _ _ i.2 c.serve_through.ensures,
  λ t. omega (arith, i.3 t, ap length c.in-Some.ensures.items, out_left g.S.Finder.alone g.S.Finder.told g.C.Clock.tells g.G.Gate.kept (g.G.Link.Link.tells && g.N.Link.Link.tells) g.G.Link.Link.tells 1 _ _ _ _ c.serve_through.ensures t),
)

pub returns-in-None : goal.returns-in-None
returns-in-None g c =
    let i = c.serving.invariant in
    let all : i.0 ≡ length c.args.left.items = omega (arith, i.1, c.in-None.ensures.cases.0, c.serving.rest.ok.0) in
    subst (λ n. ServesOn g.S.Finder.alone g.S.Finder.told g.C.Clock.tells g.G.Gate.kept (g.G.Link.Link.tells && g.N.Link.Link.tells) g.G.Link.Link.tells n (gate_told g.G.Gate c.args.gate.now) (gate_told g.G.Gate c.serving.gate)
    (desk_of g.N.Dialer g.C.Clock c.args.member.now) (desk_of g.N.Dialer g.C.Clock c.serving.member)) all i.2
