-- The capture was stored, or refused.
use Rattle.importing.proofs.KeepingLaws.{keeps_refused, keeps_stored}
use Rattle.importing.proofs.taking.store_one.Goals as goal

pub returns-in-Ok-clause-keeps : goal.returns-in-Ok-clause-keeps
returns-in-Ok-clause-keeps g c was takens k =
    keeps_stored g.S.Finder.alone takens c.args.tally.now.stored (g.S.Finder.told was) (g.S.Finder.told c.args.shelf.now) (g.S.Finder.told c.store.new.self)
    c.args.taken.now c.in-Ok._receipt c.args.tally.now.refused c.requires.none_refused k c.store.ensures.shows.consistent c.in-Ok.ensures.stores

pub returns-in-Err-clause-keeps : goal.returns-in-Err-clause-keeps
returns-in-Err-clause-keeps g c was takens k =
    keeps_refused g.S.Finder.alone takens c.args.tally.now.stored (g.S.Finder.told was) (g.S.Finder.told c.args.shelf.now) (g.S.Finder.told c.store.new.self)
    c.args.taken.now c.in-Err.fault c.args.tally.now.refused c.requires.none_refused k (g.met.S.Finder.earlier c.store.new.self) c.store.ensures.shows.consistent
    c.in-Err.ensures.stores
