-- The load's next capture was stored.
use Rattle.std.proofs.Common.{◌≡◌, refl, sym, subst}
use Rattle.load_maker.specs.Load.{taken_of}
use Rattle.load_shelf.specs.Loads.{Held}
use Rattle.load_shelf.proofs.FollowLaws.{stored}
use Rattle.load_shelf.proofs.shelf.LoadShelfShelf.store.Goals as goal

pub invariant_of-self : goal.invariant_of-self
invariant_of-self g c =
    let next = subst (λ (held : Held _). c.args.taken.now ≡ taken_of held.seed held.stored) (sym c.self.view_is) (c.if-is_next.ensures.next refl) in
    stored g.S.Finder.alone (g.S.Finder.told c.self.inside.shelf) (g.S.Finder.told c.store.new.self) _ _ _ _ _ c.in-Ok.receipt
    next c.in-Ok.ensures.stores.leaves c.in-Ok.ensures.just c.self.invariant
