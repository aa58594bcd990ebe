-- A read leaves what the load's captures made.
use Rattle.load_shelf.proofs.FollowLaws.{read}
use Rattle.load_shelf.proofs.shelf.LoadShelfShelf.piece.Goals as goal

pub invariant_of-self : goal.invariant_of-self
invariant_of-self g c =
    read g.S.Finder.alone _ (g.S.Finder.told c.self.inside.shelf) (g.S.Finder.told c.piece.new.self) _ _ _ _ c.piece.ensures.reads c.self.invariant
