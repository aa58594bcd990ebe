use Rattle.std.proofs.Common.{Ok, Err}
use Rattle.event_core.proofs.StoreLaws.{store_goes_on}
use Rattle.event_core.proofs.asking.store_event.Goals as goal

pub returns-in-Ok-clause-goes_on : goal.returns-in-Ok-clause-goes_on
returns-in-Ok-clause-goes_on g c =
    store_goes_on c.captures_are_stored_one_way.ensures.one g.S.Finder.alone (g.S.Finder.told c.args.shelf.now) (g.S.Finder.told c.store.new.self)
    c.args.taken.now (Ok c.in-Ok.receipt) (g.met.S.Finder.earlier c.store.new.self) c.in-Ok.ensures.stores c.in-Ok.ensures.shows

pub returns-in-Err-clause-goes_on : goal.returns-in-Err-clause-goes_on
returns-in-Err-clause-goes_on g c =
    store_goes_on c.captures_are_stored_one_way.ensures.one g.S.Finder.alone (g.S.Finder.told c.args.shelf.now) (g.S.Finder.told c.store.new.self)
    c.args.taken.now (Err c.in-Err.fault) (g.met.S.Finder.earlier c.store.new.self) c.in-Err.ensures.stores c.in-Err.ensures.shows
