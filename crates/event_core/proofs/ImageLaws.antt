-- The checkpoints of an image, as the files that it has.
use Rattle.std.proofs.Common.{◌≡◌, ℕ, ◌<◌, List, [], get_or, refl, sym, subst, arith}
use Rattle.capture.specs.declared.book.Book.{Book}
use Rattle.disk_model.specs.Image.{Image, file_of}
use Rattle.warc_journal.specs.Extents.{cdxj_files}
use Rattle.checkpoint.specs.Checkpoints.{IsCheckpoint, checkpoint_of}
use Rattle.archive_settling.proofs.FinishedLaws.{holds_finished}
use Rattle.archive_settling.specs.Finished.{HasCheckpoint}
use Rattle.checkpoint.specs.OfVolume.{HasCheckpointsOf}
use Rattle.archive_settling.specs.Settling.{HasWithout}
use Rattle.event_core.proofs.CountLaws.{same_without}
use Rattle.event_core.specs.Machine.{sealed}
use Rattle.event_core.specs.steps.Standing.{AreRight, HasFinished}

pub file_at : (image : Image) (k : ℕ) → checkpoint_of image k ≡ get_or (cdxj_files image) k []
unfolding file_of
file_at image k = refl

pub right_files : (book : Book) (image : Image) → HasCheckpointsOf image book → AreRight book (cdxj_files image)
right_files book image right k lines is =
    right.each k lines (subst (λ (bytes : List ℕ). IsCheckpoint k lines bytes) (sym (file_at image k)) is)

pub right_image : (book : Book) (image : Image) → AreRight book (cdxj_files image) → HasCheckpointsOf image book
right_image book image right = record {
  each = λ k lines is. right k lines (subst (λ (bytes : List ℕ). IsCheckpoint k lines bytes) (file_at image k) is);
}

pub finished_of : (book : Book) (image : Image) (k : ℕ) → HasCheckpoint book k image → HasFinished (cdxj_files image) k
finished_of book image k has = record {
  lines = has.lines;
  is = subst (λ (bytes : List ℕ). IsCheckpoint k has.lines bytes) (file_at image k) has.holds.finished;
}

pub checkpoint_by : (book : Book) (image : Image) (k : ℕ) → AreRight book (cdxj_files image) → HasFinished (cdxj_files image) k → HasCheckpoint book k image
checkpoint_by book image k right has = record {
  lines = has.lines;
  holds = holds_finished k has.lines image (subst (λ (bytes : List ℕ). IsCheckpoint k has.lines bytes) (sym (file_at image k)) has.is);
  are = (right k has.lines has.is).1;
}

-- so many of the sealed volumes have none
pub count_files : (book : Book) (image : Image) (count n : ℕ) → AreRight book (cdxj_files image)
    → HasWithout (λ k. HasCheckpoint book k image) count n → HasWithout (HasFinished (cdxj_files image)) count n
count_files book image count n right has =
    same_without (λ k. HasCheckpoint book k image) (HasFinished (cdxj_files image)) count n
    (λ k less is. finished_of book image k is)
    (λ k less is. checkpoint_by book image k right is)
    has

-- a finished one is of a sealed volume
pub finished_sealed : (book : Book) (files : List (List ℕ)) (k : ℕ) → AreRight book files → HasFinished files k → k < sealed book
finished_sealed book files k right has =
    let less = (right k has.lines has.is).0 in omega (arith, less)
