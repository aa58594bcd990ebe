-- The disk failed, which is told behind the lines.
use Rattle.verifying.proofs.VerifyLaws.{broke_off}
use Rattle.verifying.proofs.verifying.check_by.Goals as goal

pub returns-in-Ok-put_all-clause-checked : goal.returns-in-Ok-put_all-clause-checked
returns-in-Ok-put_all-clause-checked g c =
    let faults = rw c.in-Err-DiskFault.field-0-is at c.in-Err-DiskFault.ensures.faults in
    broke_off g.D.Disk g.O.Sink c.args.plan.now c.check_all.new.report _ c.args.disk.now c.check_all.new.disk c.args.out.now
    c.print_as-in-Ok-put_all.new.out c.print_as-in-Ok-put_all.result (rw c.in-Err-DiskFault.field-0-is at c.in-Err-DiskFault.ensures.checks) faults.1
    c.in-Ok-put_all.ensures (rw c.as_slice-in-Ok-put_all.ensures.value at c.print_as-in-Ok-put_all.ensures)
