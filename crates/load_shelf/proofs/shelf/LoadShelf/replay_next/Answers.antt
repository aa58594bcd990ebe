-- The load's next capture was brought back, as it was or not.
use Rattle.std.proofs.Common.{refl}
use Rattle.load_shelf.proofs.FollowLaws.{read, replayed_one}
use Rattle.load_shelf.proofs.shelf.LoadShelf.replay_next.Goals as goal

pub invariant_of-self : goal.invariant_of-self
invariant_of-self g c =
    replayed_one g.S.Finder.alone _ (g.S.Finder.told c.self.inside.shelf) (g.S.Finder.told c.bring.new.self) _ _ _ _ c.in-Ok.brought
    (c.if-is_brought.ensures refl) c.bring.ensures.reads c.in-Ok.ensures.brings c.self.invariant

pub invariant_of-self-else-is_brought : goal.invariant_of-self-else-is_brought
invariant_of-self-else-is_brought g c =
    read g.S.Finder.alone _ (g.S.Finder.told c.self.inside.shelf) (g.S.Finder.told c.bring.new.self) _ _ _ _ c.bring.ensures.reads c.self.invariant
