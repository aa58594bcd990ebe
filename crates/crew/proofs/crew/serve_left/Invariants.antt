use Rattle.std.proofs.Common.{◌≡◌, ℕ, ◌+◌, ◌≤◌, ◌&&◌, IsTrue, length}
use Rattle.command.specs.Gates.{gate_told}
use Rattle.crew.specs.steps.Working.{ServesOn, desk_of}
use Rattle.crew.proofs.crew.serve_left.Given as goal

abbrev pub invariant-serving : goal.invariant-serving
invariant-serving g l =
    (count : ℕ) × (count + length l.rest.items ≡ length l.fn.left.items)
    × ServesOn g.S.Finder.alone g.S.Finder.told g.C.Clock.tells g.G.Gate.kept (g.G.Link.Link.tells && g.N.Link.Link.tells) g.G.Link.Link.tells count (gate_told g.G.Gate l.fn.gate) (gate_told g.G.Gate l.gate)
    (desk_of g.N.Dialer g.C.Clock l.fn.member) (desk_of g.N.Dialer g.C.Clock l.member)
    × (IsTrue g.G.Link.Link.tells → length l.rest.items ≤ (g.G.Gate.connections l.gate).out)

abbrev pub decreases-serving : goal.decreases-serving
decreases-serving g l = length l.rest.items
