-- The archive was opened, and its checkpoints were written; or it was refused.
use Rattle.std.proofs.Common.{refl, sym, ap, ◌∙◌}
use Rattle.archive_core.proofs.LastingLaws.{stored_settled}
use Rattle.archive_core.specs.Holdings.{Holdings}
use Rattle.archive_volumes.proofs.ChangeLaws.{DiskLaws}
use Rattle.command.proofs.SettlingLaws.{opens_settled}
use Rattle.command.proofs.settling.open_and_settle.Given.{Over}
use Rattle.command.proofs.settling.open_and_settle.Goals as goal

disk_laws : (g : Over) → DiskLaws g.D.Disk
disk_laws g = record { earlier = g.met.D.Disk.earlier; now_counts = g.met.D.Disk.now_counts; now_only = g.met.D.Disk.now_only }

pub returns-clause-opened : goal.returns-clause-opened
returns-clause-opened g c =
    opens_settled g.D.Disk c.settling_keeps_checkpoints_right.ensures c.args.disk c.args.asked g.K.Known.book c.requires.known
    c.in-Ok.archive c.settle-answer.new.self c.in-Ok.ensures.opened c.shows_its_book.ensures.spots c.settle-answer.result c.settle-answer.ensures

-- what stood on the disk when it was opened stands behind the settling
pub returns-clause-stood : goal.returns-clause-stood
returns-clause-stood g c = λ tells.
    let on = c.in-Ok.ensures.stood refl tells in
    record {
      stood = on.stood;
      on = on.on;
      book_is = on.book_is ∙ sym (ap (λ (held : Holdings _). held.book) c.settle-answer.ensures.others);
      keeps = stored_settled g.D.Disk (disk_laws g) on.stood c.in-Ok.archive c.settle-answer.new.self c.settle-answer.result tells c.settle-answer.ensures on.keeps;
    }
