use Rattle.event_core.proofs.LookLaws.{date_lacks, found_answers}
use Rattle.event_core.proofs.asking.date_event.Goals as goal

pub returns-in-Ok-clause-goes_on : goal.returns-in-Ok-clause-goes_on
returns-in-Ok-clause-goes_on g c = λ alone limits namespace was stands.
    found_answers g.S.Finder.alone (g.S.Finder.told c.args.shelf.now) (g.S.Finder.told c.by_date.new.self) (g.met.S.Finder.earlier c.by_date.new.self)
    c.by_date.ensures.looks alone limits namespace was stands c.args.key.now c.args.time c.in-Ok.found c.in-Ok.ensures.found

pub returns-in-Err-clause-goes_on : goal.returns-in-Err-clause-goes_on
returns-in-Err-clause-goes_on g c = λ alone limits namespace was stands.
    date_lacks g.S.Finder.alone (g.S.Finder.told c.args.shelf.now) (g.S.Finder.told c.by_date.new.self) (g.met.S.Finder.earlier c.by_date.new.self)
    c.by_date.ensures.looks alone limits namespace was stands c.args.key.now c.args.time c.in-Err.memory
