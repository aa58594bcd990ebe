-- The checkpoints were written, or not for a fault of the disk or want of memory, and the archive was closed.
use Rattle.std.proofs.Common.{sym, ap, subst}
use Rattle.archive_core.proofs.LastingLaws.{stored_settled}
use Rattle.archive_core.specs.Holdings.{Holdings}
use Rattle.archive_core.specs.Lasting.{StandsSince}
use Rattle.capture.specs.declared.book.Book.{Book}
use Rattle.warc_journal.specs.Journals.{disk_of}
use Rattle.archive_volumes.proofs.ChangeLaws.{DiskLaws}
use Rattle.command.proofs.SettlingLaws.{near_still}
use Rattle.command.proofs.settling.settle_and_close.Given.{Over}
use Rattle.command.proofs.settling.settle_and_close.Goals as goal

disk_laws : (g : Over) → DiskLaws g.D.Disk
disk_laws g = record { earlier = g.met.D.Disk.earlier; now_counts = g.met.D.Disk.now_counts; now_only = g.met.D.Disk.now_only }

pub returns-clause-closed : goal.returns-clause-closed
returns-clause-closed g c = record {
  spots = c.shows_its_book.ensures.spots;
  after = c.settle-answer.new.self;
  answer = c.settle-answer.result;
  settles = c.settle-answer.ensures;
  closed = c.close.ensures.disk;
  status_is = c.status_behind.ensures;
}

pub returns-clause-near : goal.returns-clause-near
returns-clause-near g c =
    near_still g.D.Disk c.args.archive c.settle-answer.new.self c.settle-answer.result c.settle-answer.ensures c.close.result c.close.ensures.near

-- what stood in the archive's volumes, and was stored since, stands on the disk that is left
pub returns-clause-stands : goal.returns-clause-stands
returns-clause-stands g c = λ stood tells keeps.
    subst (λ (disk : _). StandsSince g.D.Disk stood c.args.archive.book disk) (sym c.close.ensures.disk)
    (subst (λ (book : Book). StandsSince g.D.Disk stood book (disk_of c.settle-answer.new.self.journal)) (ap (λ (held : Holdings _). held.book) c.settle-answer.ensures.others)
    (stored_settled g.D.Disk (disk_laws g) stood c.args.archive c.settle-answer.new.self c.settle-answer.result tells c.settle-answer.ensures keeps).stands)
