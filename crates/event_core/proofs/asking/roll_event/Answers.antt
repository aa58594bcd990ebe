use Rattle.std.proofs.Common.{Ok, Err}
use Rattle.event_core.proofs.RollLaws.{roll_answers}
use Rattle.event_core.proofs.asking.roll_event.Goals as goal

pub returns-in-Ok-clause-goes_on : goal.returns-in-Ok-clause-goes_on
returns-in-Ok-clause-goes_on g c = λ limits namespace was stands.
    roll_answers g.D.Disk c.args.archive.now c.roll-answer.new.archive c.args.now limits namespace was stands (Ok _) (Ok tt) c.in-Ok.ensures
    c.shows_its_book.ensures.shows (λ a b h. h)

pub returns-in-Err-clause-goes_on : goal.returns-in-Err-clause-goes_on
returns-in-Err-clause-goes_on g c = λ limits namespace was stands.
    roll_answers g.D.Disk c.args.archive.now c.roll-answer.new.archive c.args.now limits namespace was stands (Err c.in-Err.fault) (Err c.in-Err.fault) c.in-Err.ensures
    c.shows_its_book.ensures.shows (λ a b h. h)
