-- Volumes that stay while other files of their disk are written.
use Rattle.std.proofs.Common.{◌≡◌, ℕ, ◌≤◌, Bool, true, false, IsTrue, if◌then◌else◌, List, Result, Ok, Err, refl, sym, ap, subst, ◌∙◌, inl, ⊎_elim, arith}
use Rattle.std.proofs.lemmas.Bool.{false≢true}
use Rattle.capture.specs.declared.book.Book.{Book}
use Rattle.disk_model.specs.Crash.{Leaves}
use Rattle.disk_model.specs.Image.{Image}
use Rattle.disk_model.specs.Moments.{AddsOnly}
use Rattle.disk_model.proofs.MomentLaws.{now_has, weakened}
use Rattle.disk_model.specs.declared.disk.Disk.{Ghosts}
use Rattle.warc_journal.specs.Extents.{texts_in, warc_files}
use Rattle.warc_journal.specs.Journals.{IsInStep, Rests, disk_of, extent_of, texts}
use Rattle.warc_journal.specs.Laws.{HasWarcOf, in_step_beside}
use Rattle.warc_journal.specs.declared.extent.Extent.{Extent}
use Rattle.warc_journal.specs.declared.journal.Journal.{Journal}
use Rattle.warc_text.specs.Books.{AreVolumeTexts}
use Rattle.warc_text.specs.StandsFor.{StandsFor}
use Rattle.cdxj_line.specs.declared.line.Line.{Line}
use Rattle.checkpoint.specs.Clearing.{Clears, HasCleared}
use Rattle.checkpoint.specs.Putting.{HasPut, Puts}
use Rattle.checkpoint.specs.declared.fault.CheckpointFault.{CheckpointFault}
use Rattle.checkpoint.specs.declared.fault.CheckpointFault.TheVariants as checkpoints
use Rattle.archive_shelf.specs.Openings.{ImageStandsFor}
use Rattle.archive_volumes.proofs.ChangeLaws.{DiskLaws, moment_told}
use Rattle.archive_reading.specs.Bringing.{OnlyReads}
use Rattle.archive_volumes.specs.Held.{book_of}
use Rattle.archive_volumes.specs.Volumes.{HoldsBook, IsMeasured, IsQuiet, crash_of, muted}
use Rattle.archive_volumes.specs.declared.held.Held.{Held}
use Rattle.archive_volumes.specs.declared.volumes.Volumes.{Volumes}
use Rattle.archive_settling.specs.Settling.{Supplies}
use Rattle.archive_settling.specs.Supplying.{KeepsVolumes, OpensNoMore}

-- the files of the volumes stay, at whatever moment a crash stops the call
pub record StaysWarc {D : Type 0} (d : Ghosts D) (old new : D) : Type 0 where
  pub reading : warc_files (d.reading new) ≡ warc_files (d.reading old)
  pub leaves : AddsOnly d.moment d.images_since old new (HasWarcOf (d.images old))

stands_beside : (a b : Image) (book : Book) → warc_files a ≡ warc_files b → ImageStandsFor a book → ImageStandsFor b book
stands_beside a b book same is = record { for = subst (λ (files : List (List ℕ)). StandsFor files book) same is.for; sound = is.sound }

later_by : {D : Type 0} (d : Ghosts D) (old new : D) (b : Bool) → (IsTrue b → d.moment old ≤ d.moment new)
    → (if b then d.moment old else 0) ≤ (if b then d.moment new else 0)
later_by d old new true later = later refl
later_by d old new false later = omega arith

-- ---- a disk

module _ {D : Type 0} (d : Ghosts D) where
  warc_rests : (old new : D) → Rests d old new → StaysWarc d old new
  warc_rests old new rests = record {
    reading = ap warc_files rests.read;
    leaves = weakened d.moment d.images_since old new (λ image. ⊥) (HasWarcOf (d.images old)) (λ image none. absurd none) rests.leaves;
  }

  warc_puts : (volume : ℕ) (lines : List Line) (old new : D) → Puts d volume lines old new → StaysWarc d old new
  warc_puts volume lines old new puts = record {
    reading = puts.reading.warc;
    leaves = weakened d.moment d.images_since old new (HasPut volume lines (d.images old)) (HasWarcOf (d.images old))
        (λ image has. record { before = has.before; was = has.was; same = has.beside.warc }) puts.leaves;
  }

  pub warc_cleared : (first : ℕ) (old new : D) → Clears d first old new → StaysWarc d old new
  warc_cleared first old new clears = record {
    reading = clears.reading.warc;
    leaves = weakened d.moment d.images_since old new (HasCleared first (d.images old)) (HasWarcOf (d.images old))
        (λ image has. record { before = has.before; was = has.was; same = has.beside.warc }) clears.leaves;
  }

  pub warc_supplied : (volume : ℕ) (lines : List Line) (old new : D) (result : Result Bool CheckpointFault) → Supplies d volume lines old new result
      → StaysWarc d old new
  warc_supplied volume lines old new (Ok true) supplied = warc_puts volume lines old new supplied.0.puts
  warc_supplied volume lines old new (Ok false) supplied = warc_rests old new supplied.0
  warc_supplied volume lines old new (Err checkpoints.DiskFault) supplied =
      ⊎_elim (warc_rests old new) (λ writes. warc_puts volume lines old new writes.puts) supplied
  warc_supplied volume lines old new (Err checkpoints.Memory) supplied = warc_rests old new supplied

  module _ (laws : DiskLaws d) where
    pub opens_beside : (old new : D) → (IsTrue d.tells → StaysWarc d old new) → OpensNoMore (crash_of d old) (crash_of d new)
    opens_beside old new stays = record {
      later = later_by d old new d.tells (λ told. (stays told).leaves.later);
      moves = λ t x le o. ⊎_elim
          (λ was. inl (o.0, o.1, was, o.3))
          (λ has. inl (
            o.0,
            has.before,
            laws.now_counts old t has.before (omega (arith, le, moment_told d old o.0)) has.was,
            stands_beside o.1 has.before x has.same o.3,
          ))
          ((stays o.0).leaves.adds t o.1 (omega (arith, le, moment_told d old o.0)) o.2);
      covered = λ t le all told image left. ⊎_elim
          (all told image)
          (λ has.
          let was = all told has.before (laws.now_counts old t has.before (omega (arith, le, moment_told d old told)) has.was) in
          (was.0, stands_beside has.before image was.0 (sym has.same) was.1))
          ((stays told).leaves.adds t image (omega (arith, le, moment_told d old told)) left);
      kept = λ files has. has;
    }

    images_beside : (old new : D) → StaysWarc d old new → Leaves (d.images new) (HasWarcOf (d.images old))
    images_beside old new stays image now = ⊎_elim
        (λ was. record { before = image; was = was; same = refl })
        (λ has. has)
        (now_has d.moment d.images_since old new (d.images old) (HasWarcOf (d.images old)) (d.images new)
        (λ i left. laws.now_counts new (d.moment old) i stays.leaves.later left) (laws.now_only old) stays.leaves image now)

    -- ---- the volumes

    same_texts : (old new : Journal D) → extent_of new ≡ extent_of old → warc_files (d.reading (disk_of new)) ≡ warc_files (d.reading (disk_of old))
        → texts d new ≡ texts d old
    same_texts old new extent same =
        ap (λ (e : Extent). texts_in e (warc_files (d.reading (disk_of new)))) extent ∙ ap (texts_in (extent_of old)) same

    with_disk : (old new : Journal D) → extent_of new ≡ extent_of old → new ≡ record old { disk = disk_of new }
    with_disk old new extent i = record new { extent = extent i }

    holds_beside : (told : Bool) (old new : Journal D) (book : Book) → extent_of new ≡ extent_of old
        → (IsTrue d.tells → StaysWarc d (disk_of old) (disk_of new)) → HoldsBook d told old book → HoldsBook d told new book
    holds_beside told old new book extent stays holds = record {
      tells = holds.tells;
      in_step = λ tells. subst (IsInStep d) (sym (with_disk old new extent))
          (in_step_beside d old (disk_of new) (stays tells).reading (images_beside (disk_of old) (disk_of new) (stays tells)) (holds.in_step tells));
      texts_are = λ so. subst (AreVolumeTexts book) (sym (same_texts old new extent (stays (holds.tells so)).reading)) (holds.texts_are so);
      sound = holds.sound;
      near = λ so image now.
          let at = images_beside (disk_of old) (disk_of new) (stays (holds.tells so)) image now in
          let was = holds.near so at.before at.was in
          (was.0, stands_beside at.before image was.0 (sym at.same) was.1, was.2);
    }

    pub keeps_reads : (told : Bool) (old new : Volumes D) → OnlyReads d old new → HoldsBook d told old.journal (book_of old.held) → KeepsVolumes d told old new
    keeps_reads told old new reads holds = record {
      held = reads.held;
      extent = reads.extent;
      warc = λ tells. ap warc_files (reads.reading tells);
      holds = reads.holds told holds;
      opens = record { later = reads.quiet.later; moves = reads.quiet.moves; covered = reads.quiet.covered; kept = λ files has. has };
    }

    pub keeps_beside : (told : Bool) (old new : Volumes D) → new.held ≡ old.held → extent_of new.journal ≡ extent_of old.journal
        → (IsTrue d.tells → StaysWarc d (disk_of old.journal) (disk_of new.journal)) → HoldsBook d told old.journal (book_of old.held)
        → KeepsVolumes d told old new
    keeps_beside told old new held extent stays holds = record {
      held = held;
      extent = extent;
      warc = λ tells. (stays tells).reading;
      holds = subst (λ (h : Held). HoldsBook d told new.journal (book_of h)) (sym held)
          (holds_beside told old.journal new.journal (book_of old.held) extent stays holds);
      opens = opens_beside (disk_of old.journal) (disk_of new.journal) stays;
    }

    pub keeps_itself : (told : Bool) (old : Volumes D) → HoldsBook d told old.journal (book_of old.held) → KeepsVolumes d told old old
    keeps_itself told old holds = record {
      held = refl;
      extent = refl;
      warc = λ tells. refl;
      holds = holds;
      opens = record { later = omega arith; moves = λ t x le o. inl o; covered = λ t le all. all; kept = λ files has. has };
    }

    pub keeps_then : (told : Bool) (old mid new : Volumes D) → KeepsVolumes d told old mid → KeepsVolumes d told mid new → KeepsVolumes d told old new
    keeps_then told old mid new first second = record {
      held = second.held ∙ first.held;
      extent = second.extent ∙ first.extent;
      warc = λ tells. second.warc tells ∙ first.warc tells;
      holds = second.holds;
      opens = record {
        later = omega (arith, first.opens.later, second.opens.later);
        moves = λ t x le o. ⊎_elim (first.opens.moves t x le) (λ none. absurd none) (second.opens.moves t x (omega (arith, le, first.opens.later)) o);
        covered = λ t le all. second.opens.covered t (omega (arith, le, first.opens.later)) (first.opens.covered t le all);
        kept = λ files has. has;
      };
    }

    pub texts_kept : (told : Bool) (old new : Volumes D) → KeepsVolumes d told old new → IsTrue d.tells → texts d new.journal ≡ texts d old.journal
    texts_kept told old new keeps tells = same_texts old.journal new.journal keeps.extent (keeps.warc tells)

    pub measured_kept : (told : Bool) (old new : Volumes D) → KeepsVolumes d told old new → IsMeasured old.journal (book_of old.held)
        → IsMeasured new.journal (book_of new.held)
    measured_kept told old new keeps is = subst (λ (h : Held). IsMeasured new.journal (book_of h)) (sym keeps.held) (record {
      count = ap (λ (e : Extent). e.volumes) keeps.extent ∙ is.count;
      filled = is.filled;
      ends = omega (arith, is.ends, ap (λ (e : Extent). e.end) keeps.extent);
      begins = λ k volume last at none. omega (arith, is.begins k volume last at none, ap (λ (e : Extent). e.end) keeps.extent);
    })

-- ---- of which less is told

-- where nothing more may be opened, nothing more may be of the book
pub opens_told : {D : Type 0} (d : Ghosts D) (told : Bool) → (IsTrue told → IsTrue d.tells) → (old new : D)
    → OpensNoMore (crash_of d old) (crash_of d new) → OpensNoMore (crash_of (muted told d) old) (crash_of (muted told d) new)
opens_told {D} d told only old new opens = by told only
  where
    by : (b : Bool) → (IsTrue b → IsTrue d.tells) → OpensNoMore (crash_of (muted b d) old) (crash_of (muted b d) new)
    by true tells = subst (λ (b : Bool). OpensNoMore (crash_of (muted b d) old) (crash_of (muted b d) new)) (tells refl) opens
    by false tells = record {
      later = omega arith;
      moves = λ t x le o. absurd (false≢true o.0);
      covered = λ t le all so. absurd (false≢true so);
      kept = λ files has. has;
    }

pub quiet_told : {D : Type 0} (d : Ghosts D) (told : Bool) → (IsTrue told → IsTrue d.tells) → (old new : D) → (IsTrue d.tells → IsQuiet d old new)
    → IsQuiet (muted told d) old new
quiet_told {D} d told only old new quiet = by told only
  where
    by : (b : Bool) → (IsTrue b → IsTrue d.tells) → IsQuiet (muted b d) old new
    by true tells = subst (λ (b : Bool). IsQuiet (muted b d) old new) (tells refl) (quiet (tells refl))
    by false tells = record {
      later = omega arith;
      moves = λ t x le o. absurd (false≢true o.0);
      covered = λ t le all so. absurd (false≢true so);
      kept = λ files has. absurd (false≢true has.0);
    }
