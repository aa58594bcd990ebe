-- Nothing was stored: what the load's captures made is left.
use Rattle.std.proofs.Common.{false}
use Rattle.load_shelf.proofs.FollowLaws.{read}
use Rattle.load_shelf.proofs.shelf.LoadShelfShelf.catch_up.Goals as goal

pub invariant_of-self : goal.invariant_of-self
invariant_of-self g c =
    read g.S.Finder.alone false (g.S.Finder.told c.self.inside.shelf) (g.S.Finder.told c.catch_up.new.self) _ _ _ _ c.catch_up.ensures.catches.reads c.self.invariant
