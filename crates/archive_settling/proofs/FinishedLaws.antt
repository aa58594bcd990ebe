-- Checkpoints that stay finished.
use Rattle.std.proofs.Common.{◌≡◌, ◌⊎◌, ℕ, zero, suc, ◌+◌, ◌-◌, ◌<◌, ◌≤◌, Bool, IsTrue, List, [], ◌∷◌, length, get_or, Option, Some, None, refl, sym, ap, subst, inl, inr, arith}
use Rattle.std.specs.Prelude.{slice_get}
use Rattle.std.proofs.lemmas.Option.{slice_get_within}
use Rattle.capture.proofs.GrowthLaws.{growth_goes_on, growth_keeps_captures, grows_from_itself}
use Rattle.capture.specs.Growth.{Grows}
use Rattle.capture.specs.declared.book.Book.{Book}
use Rattle.capture.specs.declared.book.Volume.{Volume}
use Rattle.capture.specs.declared.captured.Stored.{Stored}
use Rattle.disk_model.specs.Crash.{Leaves}
use Rattle.disk_model.specs.Image.{Image, file_count, file_of}
use Rattle.disk_model.specs.declared.disk.Disk.{Ghosts}
use Rattle.disk_model.specs.declared.kind.Kind.TheVariants.{Cdxj}
use Rattle.warc_journal.specs.Extents.{cdxj_files}
use Rattle.checkpoint.proofs.VolumeLaws.{sealed_lines_stay}
use Rattle.checkpoint.specs.Checkpoints.{IsCheckpoint, checkpoint_of, checkpoint_text}
use Rattle.checkpoint.specs.Putting.{HoldsCheckpoint}
use Rattle.cdxj_line.specs.declared.line.Line.{Line}
use Rattle.checkpoint.specs.OfVolume.{HasCheckpointsOf}
use Rattle.archive_shelf.proofs.StoringLaws.{capture_grows, volume_grows}
use Rattle.archive_shelf.specs.Openings.{KeepsCheckpoints}
use Rattle.archive_shelf.specs.Storing.{with_capture}
use Rattle.archive_volumes.specs.Volumes.{crash_of, muted}
use Rattle.archive_volumes.specs.Writing.{with_prepared}
use Rattle.archive_volumes.specs.declared.room.Prepared.{Prepared}
use Rattle.archive_settling.specs.Finished.{FirstAreFinished, HasCheckpoint}

-- ---- images with the same checkpoints

pub same_checkpoint : (a b : Image) → cdxj_files a ≡ cdxj_files b → (k : ℕ) → checkpoint_of a k ≡ checkpoint_of b k
unfolding file_of
same_checkpoint a b same k = ap (λ (files : List (List ℕ)). get_or files k []) same

pub same_count : (a b : Image) → cdxj_files a ≡ cdxj_files b → file_count a Cdxj ≡ file_count b Cdxj
same_count a b same = ap (λ (files : List (List ℕ)). length files) same

pub has_still : (book : Book) (k : ℕ) (before image : Image) → checkpoint_of image k ≡ checkpoint_of before k → file_count before Cdxj ≤ file_count image Cdxj
    → HasCheckpoint book k before → HasCheckpoint book k image
has_still book k before image same count has = record {
  lines = has.lines;
  holds = record {
    there = omega (arith, has.holds.there, count);
    finished = subst (λ (bytes : List ℕ). IsCheckpoint k has.lines bytes) (sym same) has.holds.finished;
  };
  are = has.are;
}

-- a file with a checkpoint's text is there
within_files : (files : List (List ℕ)) (k : ℕ) (lines : List Line) → get_or files k [] ≡ checkpoint_text lines → k < length files
unfolding checkpoint_text
within_files [] k lines is = let bad : ⊥ = cc in absurd bad
within_files (f ∷ fs) zero lines is = omega arith
within_files (f ∷ fs) (suc k) lines is = omega (arith, within_files fs k lines is)

pub holds_finished : (k : ℕ) (lines : List Line) (image : Image) → IsCheckpoint k lines (checkpoint_of image k) → HoldsCheckpoint k lines image
unfolding file_of
holds_finished k lines image is = record { there = within_files (cdxj_files image) k lines is.text; finished = is }

-- where the finished checkpoints of an image are those of a book, one that is finished is the book's
pub has_finished : (book : Book) (k : ℕ) (lines : List Line) (image : Image) → HasCheckpointsOf image book → IsCheckpoint k lines (checkpoint_of image k)
    → HasCheckpoint book k image
has_finished book k lines image of is = record { lines = lines; holds = holds_finished k lines image is; are = (of.each k lines is).1 }

-- images with the same checkpoints have those of the same books
pub same_checkpoints_of : (a b : Image) (book : Book) → cdxj_files a ≡ cdxj_files b → HasCheckpointsOf b book → HasCheckpointsOf a book
same_checkpoints_of a b book same of = record {
  each = λ k lines is. of.each k lines (subst (λ (bytes : List ℕ). IsCheckpoint k lines bytes) (same_checkpoint a b same k) is);
}

-- ---- a book that grows

-- the volume at a place
pub volume_at : (volumes : List Volume) (k : ℕ) → k < length volumes → (v : Volume) × (slice_get volumes k ≡ Some v)
volume_at [] k less = absurd (omega (arith, less))
volume_at (v ∷ vs) zero less = (v, refl)
volume_at (v ∷ vs) (suc k) less = volume_at vs k (omega (arith, less))

-- it has no fewer volumes
no_shorter : (was now : Book) → Grows was now → (n : ℕ) → n ≡ length was.volumes → n ≤ length now.volumes
no_shorter was now grows zero is = omega arith
no_shorter was now grows (suc k) is =
    let v = volume_at was.volumes k (omega (arith, is)) in
    let at = grows.last k v.0 (omega (arith, is)) v.1 in
    omega (arith, slice_get_within now.volumes k at.volume at.placed)

pub sealed_later : (was now : Book) (n : ℕ) → Grows was now → n ≤ length was.volumes - 1 → n ≤ length now.volumes - 1
sealed_later was now n grows less = omega (arith, less, no_shorter was now grows (length was.volumes) refl)

has_later : (was now : Book) (k : ℕ) (image : Image) → Grows was now → k + 1 < length was.volumes → HasCheckpoint was k image → HasCheckpoint now k image
has_later was now k image grows sealed has = record {
  lines = has.lines;
  holds = has.holds;
  are = sealed_lines_stay growth_keeps_captures was now k has.lines grows sealed has.are;
}

-- the checkpoints of a book are those of one that it grew to
pub checkpoints_later : (was now : Book) (image : Image) → Grows was now → HasCheckpointsOf image was → HasCheckpointsOf image now
checkpoints_later was now image grows of = record {
  each = λ k lines is.
      let at = of.each k lines is in (
        omega (arith, at.0, sealed_later was now (k + 1) grows (omega (arith, at.0))),
        sealed_lines_stay growth_keeps_captures was now k lines grows at.0 at.1,
      );
}

-- the checkpoints of the first volumes stay finished where a call leaves no others, and the book grows
pub first_stay : {D : Type 0} (d : Ghosts D) (told : Bool) (old new : D) (was now : Book) (n : ℕ) → Grows was now → n ≤ length was.volumes - 1
    → KeepsCheckpoints (crash_of (muted told d) old) (crash_of (muted told d) new)
    → (IsTrue told → Leaves (d.images old) (FirstAreFinished was n)) → IsTrue told → Leaves (d.images new) (FirstAreFinished now n)
first_stay d told old new was now n grows sealed kept first so image left k less =
    let before = kept (cdxj_files image) (so, image, left, refl) in
    has_later was now k image grows (omega (arith, less, sealed))
    (has_still was k before.1 image (same_checkpoint image before.1 (sym before.3) k)
    (omega (arith, same_count image before.1 (sym before.3))) (first so before.1 before.2 k less))

-- ---- a book that takes a capture

pub ready_grows : (book : Book) (prepared : Option Prepared) (stored : Stored) → Grows book (with_capture (with_prepared book prepared) stored)
ready_grows book None stored = capture_grows book stored
ready_grows book (Some p) stored =
    growth_goes_on book (with_prepared book (Some p)) (with_capture (with_prepared book (Some p)) stored) (volume_grows book p.shadow.born)
    (capture_grows (with_prepared book (Some p)) stored)

pub room_grows : (book now : Book) (prepared : Option Prepared) → (now ≡ book) ⊎ (now ≡ with_prepared book prepared) → Grows book now
room_grows book now prepared (inl is) = subst (Grows book) (sym is) (grows_from_itself book)
room_grows book now None (inr is) = subst (Grows book) (sym is) (grows_from_itself book)
room_grows book now (Some p) (inr is) = subst (Grows book) (sym is) (volume_grows book p.shadow.born)
