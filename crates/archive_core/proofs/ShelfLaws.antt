-- What is told of an archive, and after a call that only reads its disk.
use Rattle.std.proofs.Common.{Bool, IsTrue, Result, Ok, Err, true, refl, sym, subst}
use Rattle.std.specs.Prelude.{OnOk}
use Rattle.disk_model.specs.declared.disk.Disk.{Ghosts}
use Rattle.warc_journal.specs.Journals.{disk_of}
use Rattle.archive_shelf.specs.Answers.{CountsIf}
use Rattle.archive_shelf.specs.Contents.{IsConsistent}
use Rattle.archive_shelf.specs.Told.{HoldsJust, ReadsOn, WritesNothing}
use Rattle.archive_volumes.specs.Volumes.{LeavesJust, muted}
use Rattle.archive_core.specs.Holdings.{Holdings, IsArchive, contents_of}
use Rattle.archive_core.specs.Looking.{OnlyLooks}
use Rattle.archive_core.specs.Told.{told_of}
use Rattle.archive_core.proofs.ArchiveLaws.{shows_entries}

-- a call that only looked has read the disk
pub reads_on : {D : Type 0} (d : Ghosts D) (fault : Bool) (was is : Holdings D) → OnlyLooks d was is
    → CountsIf fault (d.faults (disk_of was.journal)) (d.faults (disk_of is.journal)) → ReadsOn true fault (told_of d was) (told_of d is)
reads_on {D} d fault was is only counts =
    subst (λ (held : Holdings D). CountsIf fault (d.faults (disk_of was.journal)) (d.faults (disk_of held.journal))
    → WritesNothing true (told_of d was) (told_of d held) → ReadsOn true fault (told_of d was) (told_of d held)) (sym only.others)
    (λ risen unwritten. record {
      stays = record { seen = refl; shown = refl; others = refl };
      faults = risen;
      unwritten = unwritten;
    }) counts only.unwritten

pub consistent : {D : Type 0} (d : Ghosts D) (held : Holdings D) → IsArchive d held → IsConsistent true (contents_of held)
consistent d held is = record { sound = is.holds.sound; shown = λ alone. shows_entries d held is }

-- where each image has just the texts, so has what a read gives
pub just_read : {D T E : Type 0} (d : Ghosts D) (held : Holdings D) (result : Result T E)
    → (IsTrue held.told → d.images (disk_of held.journal) (d.reading (disk_of held.journal)))
    → OnOk result (LeavesJust (muted held.told d) (disk_of held.journal) held.book) → HoldsJust true (told_of d held) result
just_read d held (Ok value) now just alone told = just told (d.reading (disk_of held.journal)) (now told)
just_read d held (Err fault) now just alone told = tt
