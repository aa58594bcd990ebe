-- A record more, or none.
use Rattle.importing.proofs.TakingLaws.{begun_more, begun_still, goes_farther, outcome_fits, taken_all, taken_more}
use Rattle.importing.proofs.taking.take_next.Goals as goal

pub take-requires-clause-fits : goal.take-requires-clause-fits
take-requires-clause-fits g c =
    outcome_fits c.args.reader.now c.next.new.self c.in-Ok-Some.outcome c.requires.stands (rw c.in-Ok-Some.field-0-is at c.in-Ok-Some.ensures.gives)

pub returns-in-Ok-None-clause-takes : goal.returns-in-Ok-None-clause-takes
returns-in-Ok-None-clause-takes g c was taken =
    taken_all g.S.Finder.alone c.args.reader.now c.next.new.self c.args.tally.now (g.S.Finder.told was) (g.S.Finder.told c.args.shelf.now)
    c.next.ensures.file (rw c.in-Ok-None.field-0-is at c.in-Ok-None.ensures.gives) taken

pub returns-in-Err-clause-takes : goal.returns-in-Err-clause-takes
returns-in-Err-clause-takes g c was taken =
    begun_still g.S.Finder.alone c.args.reader.now c.next.new.self c.args.tally.now (g.S.Finder.told was) (g.S.Finder.told c.args.shelf.now) c.in-Err.ensures.err taken

pub returns-in-Ok-clause-takes : goal.returns-in-Ok-clause-takes
returns-in-Ok-clause-takes g c was taken =
    taken_more g.S.Finder.alone c.args.reader.now c.next.new.self c.args.tally.now c.take.new.tally (g.S.Finder.told was) (g.S.Finder.told c.args.shelf.now)
    (g.S.Finder.told c.take.new.shelf) c.in-Ok-Some.outcome (rw c.in-Ok-Some.field-0-is at c.in-Ok-Some.ensures.gives) taken (λ takens k. c.take.ensures.keeps was takens k) c.in-Ok.ensures.lines c.in-Ok.ensures.count c.in-Ok.ensures.tellable

pub returns-in-Ok-clause-farther : goal.returns-in-Ok-clause-farther
returns-in-Ok-clause-farther g c = λ t. goes_farther c.args.reader.now c.next.new.self c.in-Ok-Some.outcome c.requires.stands (rw c.in-Ok-Some.field-0-is at c.in-Ok-Some.ensures.gives)

pub returns-in-Err-take-clause-takes : goal.returns-in-Err-take-clause-takes
returns-in-Err-take-clause-takes g c was taken =
    begun_more g.S.Finder.alone c.args.reader.now c.next.new.self c.args.tally.now c.take.new.tally (g.S.Finder.told was) (g.S.Finder.told c.args.shelf.now)
    (g.S.Finder.told c.take.new.shelf) c.in-Ok-Some.outcome (rw c.in-Ok-Some.field-0-is at c.in-Ok-Some.ensures.gives) taken (λ takens k. c.take.ensures.keeps was takens k)
