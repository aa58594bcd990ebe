-- The archive was opened, or it was refused.
use Rattle.std.proofs.Common.{arith}
use Rattle.archive_reopening.proofs.KnownLaws.{may_be_known}
use Rattle.archive_reopening.specs.Known.{opening_of}
use Rattle.command.proofs.OpeningLaws.{refused_as}
use Rattle.command.proofs.SettlingLaws.{checkpoints_known}
use Rattle.command.proofs.opening.open.Goals as goal
use Rattle.command.specs.Printing.{printed_as}

pub reopen_known-requires : goal.reopen_known-requires
reopen_known-requires g c = λ κs within. (
  within,
  (
    c.requires.uuid,
    (
      record { captures = omega arith; volume_bytes = omega arith },
      (
        may_be_known g.D.Disk c.args.disk c.args.asked g.K.Known.book c.requires.known,
        λ at. checkpoints_known g.D.Disk c.args.disk c.args.asked g.K.Known.book c.requires.known,
      ),
    ),
  ),
)

pub returns-in-Ok-clause-opened : goal.returns-in-Ok-clause-opened
returns-in-Ok-clause-opened g c = record { is = c.in-Ok.ensures.reopened; whole = c.in-Ok.ensures.whole }

pub returns-in-Err-clause-refused : goal.returns-in-Err-clause-refused
returns-in-Err-clause-refused g c =
    refused_as g.D.Disk g.O.Sink (opening_of c.args.disk c.args.depth c.args.asked g.K.Known.book) _ (printed_as c.args.out.now c.print_fault.new.out _)
    c.in-Err.ensures.refused c.in-Err.ensures.whole_refused c.print_fault.ensures
