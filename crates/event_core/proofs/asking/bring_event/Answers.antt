use Rattle.std.proofs.Common.{Ok, Err}
use Rattle.archive_shelf.specs.Answers.{is_bring_fault}
use Rattle.capture.specs.declared.captured.Brought.{Brought}
use Rattle.event_core.proofs.LookLaws.{bring_goes_on}
use Rattle.event_core.proofs.asking.bring_event.Goals as goal

pub returns-in-Ok-clause-goes_on : goal.returns-in-Ok-clause-goes_on
returns-in-Ok-clause-goes_on g c =
    bring_goes_on g.S.Finder.alone (is_bring_fault (Ok c.in-Ok.brought)) (g.S.Finder.told c.args.shelf.now) (g.S.Finder.told c.bring.new.self) c.args.number (Ok c.in-Ok.brought)
    (g.met.S.Finder.earlier c.bring.new.self) c.in-Ok.ensures.reads c.in-Ok.ensures.shows c.in-Ok.ensures.brings

pub returns-in-Err-clause-goes_on : goal.returns-in-Err-clause-goes_on
returns-in-Err-clause-goes_on g c =
    bring_goes_on g.S.Finder.alone (is_bring_fault {T = Brought} (Err c.in-Err.fault)) (g.S.Finder.told c.args.shelf.now) (g.S.Finder.told c.bring.new.self) c.args.number (Err c.in-Err.fault)
    (g.met.S.Finder.earlier c.bring.new.self) c.in-Err.ensures.reads c.in-Err.ensures.shows c.in-Err.ensures.brings
