-- What it leaves of an archive to write the checkpoints of sealed volumes: of each volume but the last.
use Rattle.std.specs.Prelude.{◌≡◌, ℕ, ◌+◌, ◌-◌, ◌≤◌, IsTrue, length, IfOk, OnOk, Result, Ok}
use Rattle.disk_model.specs.Crash.{Leaves}
use Rattle.disk_model.specs.declared.disk.Disk.{Ghosts}
use Rattle.warc_journal.specs.Journals.{disk_of, extent_of}
use Rattle.checkpoint.specs.Checkpoints.{checkpoint_of}
use Rattle.checkpoint.specs.Faults.{CountsDisk}
use Rattle.checkpoint.specs.declared.fault.CheckpointFault.{CheckpointFault}
use Rattle.checkpoint.specs.declared.fault.CheckpointFault.TheVariants as checkpoints
use Rattle.archive_shelf.specs.Openings.{LeavesNoMore}
use Rattle.archive_settling.specs.Finished.{FirstAreFinished, HasCheckpoint}
use Rattle.archive_core.specs.Holdings.{Holdings}
use Rattle.archive_core.specs.Looking.{OnlyLooks}
use Rattle.archive_core.specs.Told.{told_of}
use Rattle.archive_settling.specs.Settling.{HasWithout, LeavesCheckpoints, reach}

-- What a call leaves that writes the checkpoints which are missing, and answers how many it wrote, which is how many files are others than
-- before. All of the archive stays but its disk and how many checkpoints are known to be finished, of which none is forgotten; after success
-- those of all sealed volumes are, of each but the last. Where the book is told, so many are finished in each image, and so in what a read gives, also where it
-- was refused; and after success just so many were missing. Nothing is opened that wasn't before. Where it wrote none, the disk stays; and it isn't asked where
-- all were known.
pub record SettlesOn {D : Type 0} (d : Ghosts D) (was is : Holdings D) (result : Result ℕ CheckpointFault) : Type 0 where
  pub others : is ≡ record was { journal = is.journal; settled = is.settled }
  pub known : was.settled ≤ is.settled
  pub all : OnOk result (is.settled ≡ length was.book.volumes - 1)
  pub few : IfOk result (λ n. was.settled + n ≤ is.settled)
  pub unasked : was.settled ≡ length was.book.volumes - 1 → OnOk result (is.journal ≡ was.journal)
  pub extent : extent_of is.journal ≡ extent_of was.journal
  pub faults : CountsDisk (d.faults (disk_of was.journal)) (d.faults (disk_of is.journal)) result
  pub leaves : IsTrue d.tells
      → LeavesCheckpoints d (record { told = was.told; book = was.book; spots = was.spots }) (reach is.settled result)
      (disk_of was.journal) (disk_of is.journal)
  pub wrote : IsTrue d.tells → IfOk result (HasWithout
      (λ k. checkpoint_of (d.reading (disk_of is.journal)) k ≡ checkpoint_of (d.reading (disk_of was.journal)) k) (length was.book.volumes - 1))
  pub first : IsTrue was.told → Leaves (d.images (disk_of is.journal)) (FirstAreFinished was.book is.settled)
  -- but for its checkpoints
  pub opens : LeavesNoMore (told_of d was).crash (record (told_of d is).crash { checkpoints = (told_of d was).crash.checkpoints })
  pub missing : IsTrue was.told
      → IfOk result (HasWithout (λ k. HasCheckpoint was.book k (d.reading (disk_of was.journal))) (length was.book.volumes - 1))
  pub none : result ≡ Ok 0 → OnlyLooks d was (record is { settled = was.settled })
