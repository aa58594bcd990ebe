-- What the command `pipe` leaves.
use Rattle.std.specs.Prelude.{◌≡◌, ◌⊎◌, ◌≤◌, ℕ, List, true, IsTrue, Option}
use Rattle.archive_core.specs.Holdings.{Holdings, contents_of}
use Rattle.archive_reopening.specs.Known.{Opening, by_checkpoints}
use Rattle.archive_reopening.specs.Standing.{LeavesStored}
use Rattle.archive_core.specs.Told.{told_of}
use Rattle.archive_volumes.specs.Volumes.{OpensNear, crash_of, muted}
use Rattle.archive_shelf.specs.Openings.{HasIds, ImageStandsFor, SameBook, StaysCovered}
use Rattle.archive_shelf.specs.Told.{GoesOn}
use Rattle.capture.specs.declared.book.Book.{Book}
use Rattle.disk_model.specs.Image.{Image}
use Rattle.command.specs.Objects.{Around, Kinds, Objects, told_around}
use Rattle.command.specs.Opening.{IsNotOpened}
use Rattle.command.specs.Printing.{printed_as}
use Rattle.command.specs.Settling.{ClosesSettled, OpensSettled}
use Rattle.proxy_run.specs.Serving.{ServesOne, pipe_site}
use Rattle.command.specs.declared.status.Status.{Status}
use Rattle.command.specs.declared.status.Status.TheVariants.{Done, Memory, Outside}
use Rattle.request_answer.specs.Images.{HasAllIds, OpensAtLast}
use Rattle.request_answer.specs.Traces.{terms_of}
use Rattle.crew.specs.Crews.{IsEnd}
use Rattle.warc_journal.specs.Journals.{disk_of}

module _ {D G L P N M C O : Type 0} (kinds : Kinds D G L P N M C O) where
  -- what is told around the connection
  abbrev pub around_in : Objects D G (N × C) O → Around
  around_in objects = told_around kinds.gates kinds.dialers kinds.clocks objects.gate objects.crew

  -- the gate's first connection was served over the archive, and hung up
  pub record HasServed (was is : Objects D G (N × C) O) (before after : Holdings D) (status : Status) : Type 0 where
    pub one : ServesOne true (record { site = pipe_site; clock_tells = kinds.clocks.tells }) (around_in was) (around_in is)
        (told_of kinds.disks before) (told_of kinds.disks after) status
    -- where the book is told and ids differ, each book for which an image stands that a crash may leave, and so what a read gives, is one that its rounds leave of
    -- the book that was there before
    pub left : IsTrue before.told → HasIds before.book → HasAllIds one.connection.rounds
        → (image : Image) (x : Book) → kinds.disks.images (disk_of after.journal) image → ImageStandsFor image x
        → OpensAtLast (terms_of pipe_site true (contents_of before)) (λ book. SameBook book before.book) one.connection.rounds x

  -- The archive was opened by its checkpoints, those that were missing were written, the connection was served, and those that were missing then were written.
  -- What holds whatever the links tell: nothing was printed; the book has only grown, and where it is told, each image that a crash may leave, and so what a
  -- read gives, stands for a sound book that is that one or next to it; each image since an earlier moment stands for a sound book where it did before; a
  -- fault of the gate is told.
  pub record Pipes (known : Option Book) (asked : Option (List ℕ)) (was is : Objects D G (N × C) O) (status : Status) : Type 0 where
    -- the archive as the first settling left it, and as the connection did, with that one's status
    pub before : Holdings D
    pub after : Holdings D
    pub said : Status
    pub opened : OpensSettled kinds.disks (by_checkpoints was.disk asked known) before
    -- it was served, or the gate gave none, for this reason: then nothing was gained, and the archive wasn't asked
    pub serves : IsTrue kinds.clients_tell → IsTrue kinds.origins_tell
        → HasServed was is before after said
        ⊎ (IsEnd (kinds.gates.closed was.gate) (kinds.gates.faults was.gate) (kinds.gates.faults is.gate) said × (around_in is ≡ around_in was)
        × (after ≡ before))
    pub goes_on : GoesOn true (told_of kinds.disks before) (told_of kinds.disks after)
    pub closed : ClosesSettled kinds.disks after said is.disk status
    pub near : IsTrue before.told → OpensNear kinds.disks is.disk after.book
    -- whatever is told of the book, each capture that was stored stands with just its records, from its store on, behind all that stood finished before
    pub stored : IsTrue kinds.disks.tells → LeavesStored kinds.disks was.disk before.book is.disk after.book
    pub covered : StaysCovered (crash_of (muted before.told kinds.disks) was.disk) (crash_of (muted before.told kinds.disks) is.disk)
    pub ends : (said ≡ Outside) ⊎ (((said ≡ Done) ⊎ (said ≡ Memory)) × (kinds.gates.faults is.gate ≡ kinds.gates.faults was.gate))
    pub disk_faults : kinds.disks.faults was.disk ≤ kinds.disks.faults is.disk
    pub prints_nothing : is.out ≡ was.out

  -- The archive that was to be opened was refused, and neither gate nor crew was touched.
  pub record Refuses {W : Type 0} (opening : Opening D) (was is : Objects D G W O) (status : Status) : Type 0 where
    pub refused : IsNotOpened kinds.disks kinds.sinks opening is.disk (printed_as was.out is.out status)
    pub untouched : is ≡ record was { disk = is.disk; out = is.out }
