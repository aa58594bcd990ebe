use Rattle.archive_settling.proofs.MissingLaws.{due_by_found, due_by_place}
use Rattle.archive_settling.proofs.missing.is_due.Goals as goal

pub returns-in-Some-clause-due : goal.returns-in-Some-clause-due
returns-in-Some-clause-due g c = λ tells.
    due_by_found g.D.Disk c.args.volume c.args.lines.now c.in-Some.found.items c.args.disk.now c.read_for.new.disk c.are_same.result
    (rw c.in-Some.is at (c.in_ok-found.ensures.read tells)) (c.in_ok-found.ensures.synced tells)
    c.are_same.ensures

pub returns-in-None-clause-due : goal.returns-in-None-clause-due
returns-in-None-clause-due g c = λ tells.
    due_by_place g.D.Disk c.args.volume c.args.lines.now c.args.disk.now c.read_for.new.disk c.has_place.new.disk c.has_place.result
    (c.in_ok-found.ensures.rests tells).read (rw c.in-None.is at (c.in_ok-found.ensures.read tells)) (c.has_place.ensures.place tells)
