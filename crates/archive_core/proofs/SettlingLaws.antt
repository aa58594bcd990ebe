-- An archive whose checkpoints were written.
use Rattle.std.proofs.Common.{◌≡◌, ℕ, ◌-◌, IsTrue, List, length, Result, Ok, Err, sym, ap, subst, arith}
use Rattle.std.specs.Prelude.{IfOk, OnOk}
use Rattle.disk_model.specs.Crash.{Leaves}
use Rattle.disk_model.specs.declared.disk.Disk.{Ghosts}
use Rattle.warc_journal.specs.Journals.{Rests, disk_of}
use Rattle.checkpoint.specs.Faults.{CountsDisk}
use Rattle.checkpoint.specs.declared.fault.CheckpointFault.{CheckpointFault}
use Rattle.checkpoint.specs.declared.fault.CheckpointFault.TheVariants as checkpoints
use Rattle.archive_volumes.proofs.ChangeLaws.{DiskLaws, quiet_by}
use Rattle.archive_volumes.specs.Held.{book_of}
use Rattle.archive_volumes.specs.Spots.{ArePlaced, AreWithin}
use Rattle.archive_volumes.specs.Volumes.{HoldsBook, IsMeasured}
use Rattle.archive_volumes.specs.declared.held.Held.{Held}
use Rattle.archive_volumes.specs.declared.volumes.Volumes.{Volumes}
use Rattle.archive_settling.specs.Finished.{FirstAreFinished, HasCheckpoint}
use Rattle.archive_core.specs.Holdings.{Holdings, IsArchive}
use Rattle.archive_core.specs.Looking.{OnlyLooks}
use Rattle.archive_core.specs.Settling.{SettlesOn}
use Rattle.archive_settling.specs.Settling.{HasWithout, LeavesCheckpoints, reach}
use Rattle.archive_settling.specs.Supplying.{GoesThrough, KeepsVolumes, KnowsMore, IsAsBefore, shelved_as}
use Rattle.archive_settling.proofs.KeepingLaws.{measured_kept, opens_told, quiet_told, texts_kept}

answer : Result ℕ CheckpointFault → ℕ
answer (Ok n) = n
answer (Err fault) = 1

-- the archive, by what it holds beside its volumes, and how many checkpoints are known to be finished
abbrev pub over : {D : Type 0} → Holdings D → Volumes D → ℕ → Holdings D
over base volumes settled = record base { journal = volumes.journal; book = book_of volumes.held; settled = settled }

on_ok : {P Q : Type 0} (r : Result ℕ CheckpointFault) → (P → Q) → OnOk r P → OnOk r Q
on_ok (Ok n) gives p = gives p
on_ok (Err fault) gives p = tt

module _ {D : Type 0} (d : Ghosts D) (laws : DiskLaws d) (base : Holdings D) (old new : Volumes D) (known now : ℕ)
    (keeps : KeepsVolumes d base.told old new) (is : IsArchive d (over base old known)) (result : Result ℕ CheckpointFault)
    (went : IsTrue d.tells → GoesThrough d (shelved_as base.told (book_of old.held) base.spots) now (disk_of old.journal) (disk_of new.journal) result)
    (knows : KnowsMore (book_of old.held) known now result) where
  other_book : over base new now ≡ record base { journal = new.journal; book = book_of old.held; settled = now }
  other_book = ap (λ (h : Held). record base { journal = new.journal; book = book_of h; settled = now }) keeps.held

  first : (r : Result ℕ CheckpointFault) → GoesThrough d (shelved_as base.told (book_of old.held) base.spots) now (disk_of old.journal) (disk_of new.journal) r
      → IsTrue base.told → Leaves (d.images (disk_of new.journal)) (FirstAreFinished (book_of old.held) now)
  first (Ok n) through told = through.settled told
  first (Err fault) through told = through.settled told

  pub settled_archive : IsArchive d (over base new now)
  settled_archive = subst (IsArchive d) (sym other_book) (record {
    holds = subst (λ (h : Held). HoldsBook d base.told new.journal (book_of h)) keeps.held keeps.holds;
    measured = subst (λ (h : Held). IsMeasured new.journal (book_of h)) keeps.held (measured_kept d laws base.told old new keeps is.measured);
    counted = record {
      few = is.counted.few;
      revisits = is.counted.revisits;
      found = is.counted.found;
      below = is.counted.below;
      limits = is.counted.limits;
      sealed = knows.within;
    };
    spots = is.spots;
    table = is.table;
    indexed = is.indexed;
    named = is.named;
    within = λ tells. subst (λ (all : List (List ℕ)). AreWithin all base.spots) (sym (texts_kept d laws base.told old new keeps tells)) (is.within tells);
    placed = λ told. subst (λ (all : List (List ℕ)). ArePlaced all (book_of old.held) base.spots)
        (sym (texts_kept d laws base.told old new keeps (is.holds.tells told))) (is.placed told);
    known = is.known;
    made = is.made;
    settled = λ told. first result (went (is.holds.tells told)) told;
  })

  left : (r : Result ℕ CheckpointFault) → GoesThrough d (shelved_as base.told (book_of old.held) base.spots) now (disk_of old.journal) (disk_of new.journal) r
      → LeavesCheckpoints d (shelved_as base.told (book_of old.held) base.spots) (reach now r) (disk_of old.journal) (disk_of new.journal)
  left (Ok n) through = through.left
  left (Err checkpoints.DiskFault) through = through.left
  left (Err checkpoints.Memory) through = through.left

  missing : (r : Result ℕ CheckpointFault) → IsTrue base.told → KnowsMore (book_of old.held) known now r
      → GoesThrough d (shelved_as base.told (book_of old.held) base.spots) now (disk_of old.journal) (disk_of new.journal) r
      → IfOk r (HasWithout (λ k. HasCheckpoint (book_of old.held) k (d.reading (disk_of old.journal))) (length (book_of old.held).volumes - 1))
  missing (Ok n) told more through =
      subst (λ (k : ℕ). HasWithout (λ j. HasCheckpoint (book_of old.held) j (d.reading (disk_of old.journal))) k n) more.all (through.counted told)
  missing (Err fault) told more through = tt

  -- how many files are others than before
  wrote : (r : Result ℕ CheckpointFault) → KnowsMore (book_of old.held) known now r
      → GoesThrough d (shelved_as base.told (book_of old.held) base.spots) now (disk_of old.journal) (disk_of new.journal) r
      → IfOk r (HasWithout (IsAsBefore (d.reading (disk_of old.journal)) (d.reading (disk_of new.journal))) (length (book_of old.held).volumes - 1))
  wrote (Ok n) more through =
      subst (λ (k : ℕ). HasWithout (IsAsBefore (d.reading (disk_of old.journal)) (d.reading (disk_of new.journal))) k n) more.all through.wrote
  wrote (Err fault) more through = tt

  looks : (IsTrue d.tells → Rests d (disk_of old.journal) (disk_of new.journal)) → OnlyLooks d (over base old known) (over base new known)
  looks still = record {
    others = ap (λ (h : Held). record base { journal = new.journal; book = book_of h; settled = known }) keeps.held;
    extent = keeps.extent;
    bytes = still;
    unwritten = record {
      reading = λ alone told. (still (is.holds.tells told)).read;
      crash = quiet_told d base.told is.holds.tells (disk_of old.journal) (disk_of new.journal)
          (λ tells. quiet_by d laws (disk_of old.journal) (disk_of new.journal) still);
    };
  }

  none : (r : Result ℕ CheckpointFault)
      → (IsTrue d.tells → GoesThrough d (shelved_as base.told (book_of old.held) base.spots) now (disk_of old.journal) (disk_of new.journal) r) → r ≡ Ok 0
      → OnlyLooks d (over base old known) (over base new known)
  unfolding answer
  none (Ok n) through same = looks (λ tells. (through tells).none (ap answer same))
  none (Err fault) through same = absurd (omega (arith, ap answer same))

  pub settles_on : (known ≡ length (book_of old.held).volumes - 1 → OnOk result (new ≡ old))
      → CountsDisk (d.faults (disk_of old.journal)) (d.faults (disk_of new.journal)) result
      → SettlesOn d (over base old known) (over base new now) result
  settles_on unasked faults = record {
    others = other_book;
    known = knows.more;
    all = knows.all;
    few = knows.few;
    unasked = λ all. on_ok result (λ same. ap (λ (v : Volumes D). v.journal) same) (unasked all);
    extent = keeps.extent;
    faults = faults;
    leaves = λ tells. left result (went tells);
    wrote = λ tells. wrote result knows (went tells);
    first = λ told. first result (went (is.holds.tells told)) told;
    opens = opens_told d base.told is.holds.tells (disk_of old.journal) (disk_of new.journal) keeps.opens;
    missing = λ told. missing result told knows (went (is.holds.tells told));
    none = none result went;
  }
