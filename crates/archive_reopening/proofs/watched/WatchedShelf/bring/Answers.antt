-- Each clause is one of the call by number, or holds of an archive at each call.
use Rattle.std.proofs.Common.{true, subst}
use Rattle.archive_shelf.specs.Answers.{is_bring_fault}
use Rattle.archive_shelf.specs.Told.{ReadsOn}
use Rattle.archive_volumes.proofs.ChangeLaws.{DiskLaws}
use Rattle.archive_core.specs.Holdings.{Holdings}
use Rattle.archive_core.specs.Told.{told_of}
use Rattle.archive_core.proofs.ShelfLaws.{reads_on}
use Rattle.archive_core.proofs.LastingLaws.{stored_looks}
use Rattle.archive_reopening.proofs.watched.WatchedShelf.bring.Given.{Over}
use Rattle.archive_reopening.proofs.watched.WatchedShelf.bring.Goals as goal

-- what is asked of the disk
disk_laws : (g : Over) → DiskLaws g.D.Disk
disk_laws g = record { earlier = g.met.D.Disk.earlier; now_counts = g.met.D.Disk.now_counts; now_only = g.met.D.Disk.now_only }

pub invariant_of-self : goal.invariant_of-self
invariant_of-self g c = λ tells.
    stored_looks g.D.Disk (disk_laws g) g.S.Since.stood c.self.inside.archive c.bring_numbered-answer.new.self tells c.bring_numbered-answer.ensures.looks
    (is_bring_fault c.bring_numbered-answer.result) c.bring_numbered-answer.ensures.faults (c.self.invariant tells)

pub returns-clause-brings : goal.returns-clause-brings
returns-clause-brings g c = c.bring_numbered-answer.ensures.brings

pub returns-clause-names : goal.returns-clause-names
returns-clause-names g c = c.bring_numbered-answer.ensures.names

pub returns-clause-digests : goal.returns-clause-digests
returns-clause-digests g c = c.bring_numbered-answer.ensures.digests

pub returns-clause-reads : goal.returns-clause-reads
returns-clause-reads g c =
    subst (λ (held : Holdings _). ReadsOn true (is_bring_fault c.bring_numbered-answer.result) (told_of g.D.Disk held) (told_of g.D.Disk c.bring_numbered-answer.new.self)) c.self.view_is
    (reads_on g.D.Disk (is_bring_fault c.bring_numbered-answer.result) c.self.inside.archive c.bring_numbered-answer.new.self c.bring_numbered-answer.ensures.looks c.bring_numbered-answer.ensures.faults)

pub returns-clause-shows : goal.returns-clause-shows
returns-clause-shows g c = c.shows_its_book.ensures.shows
