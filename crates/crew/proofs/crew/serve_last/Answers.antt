-- What is left, and then what was refused.
use Rattle.std.proofs.Common.{◌&&◌, arith}
use Rattle.crew.proofs.CrewLaws.{out_left, serves_on_none, serves_on_twice}
use Rattle.crew.proofs.crew.serve_last.Goals as goal

pub serve_through-requires : goal.serve_through-requires
serve_through-requires g c = λ t. omega (arith, (rw c.in-Some.is at c.requires) t, out_left g.S.Finder.alone g.S.Finder.told g.C.Clock.tells g.G.Gate.kept (g.G.Link.Link.tells && g.N.Link.Link.tells) g.G.Link.Link.tells _ _ _ _ _ c.serve_left.ensures t)

pub returns-in_default : goal.returns-in_default
returns-in_default g c =
    rw c.in_default.is (serves_on_twice g.S.Finder.alone g.S.Finder.told g.C.Clock.tells g.G.Gate.kept (g.G.Link.Link.tells && g.N.Link.Link.tells) g.G.Link.Link.tells _ 0 _ _ _ _ _ _ c.serve_left.ensures
    (serves_on_none g.S.Finder.alone g.S.Finder.told g.C.Clock.tells g.G.Gate.kept (g.G.Link.Link.tells && g.N.Link.Link.tells) g.G.Link.Link.tells _ _))

pub returns : goal.returns
returns g c = rw c.in-Some.is (serves_on_twice g.S.Finder.alone g.S.Finder.told g.C.Clock.tells g.G.Gate.kept (g.G.Link.Link.tells && g.N.Link.Link.tells) g.G.Link.Link.tells _ 1 _ _ _ _ _ _ c.serve_left.ensures c.serve_through.ensures)
