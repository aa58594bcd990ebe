-- The archive was opened and its volumes checked, or it was refused.
use Rattle.std.proofs.Common.{inl}
use Rattle.verifying.proofs.VerifyLaws.{not_planned, reopened_there, verified_by}
use Rattle.verifying.proofs.verifying.verify.Goals as goal

pub check_by-status-requires-clause-there : goal.check_by-status-requires-clause-there
check_by-status-requires-clause-there g c = λ κs within.
    reopened_there g.D.Disk g.K.Known.book c.args.disk _ c.in-Ok.archive _ c.in-Ok.ensures.opened.is c.close-disk.ensures.disk c.in-Ok-plan_of.ensures.volumes

pub returns-in-Ok-plan_of : goal.returns-in-Ok-plan_of
returns-in-Ok-plan_of g c =
    inl (verified_by g.D.Disk g.O.Sink g.K.Known.book c.args.disk _ c.in-Ok.archive c.in-Ok.ensures.opened c.close-disk.ensures.disk
    c.args.out.now c.open.new.out c.in-Ok.ensures.prints_nothing _ c.in-Ok-plan_of.plan _ _ c.in-Ok-plan_of.ensures.namespace c.in-Ok-plan_of.ensures.volumes
    c.check_by-status.ensures.checked c.check_by-status.ensures.reading)

pub returns-in-Err-plan_of : goal.returns-in-Err-plan_of
returns-in-Err-plan_of g c =
    inl (not_planned g.D.Disk g.O.Sink g.K.Known.book c.args.disk _ c.in-Ok.archive c.in-Ok.ensures.opened c.close.ensures.disk
    c.args.out.now c.open.new.out c.in-Ok.ensures.prints_nothing)
