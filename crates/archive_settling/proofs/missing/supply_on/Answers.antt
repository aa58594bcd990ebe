use Rattle.std.proofs.Common.{Bool, Err, ap, subst}
use Rattle.archive_settling.proofs.MissingLaws.{refused_by, rests_refused, same_fault}
use Rattle.archive_settling.specs.Settling.{IsDue, Supplies}
use Rattle.archive_settling.proofs.missing.supply_on.Goals as goal

pub returns-in_err-due-clause-supplies : goal.returns-in_err-due-clause-supplies
returns-in_err-due-clause-supplies g c = λ tells.
    same_fault (Supplies g.D.Disk c.args.volume c.args.lines.now c.args.disk.now c.is_due.new.disk) _ c.from_residual.result c.from_residual.ensures.1
    (rests_refused g.D.Disk c.args.volume c.args.lines.now c.args.disk.now c.is_due.new.disk _ (c.in_err-due.ensures.rests tells))

pub returns-in_err-write_for-clause-supplies : goal.returns-in_err-write_for-clause-supplies
returns-in_err-write_for-clause-supplies g c = λ tells.
    let due = subst (λ (b : Bool). IsDue g.D.Disk c.args.volume c.args.lines.now c.args.disk.now c.is_due.new.disk b) c.if-not-due.false
    (c.in_ok-due.ensures.due tells) in
    same_fault (Supplies g.D.Disk c.args.volume c.args.lines.now c.args.disk.now c.write_for.new.disk) _ c.from_residual-in_err-write_for.result
    c.from_residual-in_err-write_for.ensures.1
    (refused_by g.D.Disk c.args.volume c.args.lines.now c.args.disk.now c.is_due.new.disk c.write_for.new.disk _ (c.in_ok-due.ensures.rests tells) due.1
    (c.in_err-write_for.ensures.puts tells) (λ e. c.in_err-write_for.ensures.memory (ap Err e)))
