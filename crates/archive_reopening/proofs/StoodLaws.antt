-- What stands finished in an archive's volumes when it is opened is kept from then on.
use Rattle.std.proofs.Common.{◌≡◌, ℕ, ◌-◌, Bool, IsTrue, [], length, Result, Ok, Err, refl, sym, ap, subst, ◌∙◌, inl, arith}
use Rattle.std.specs.Prelude.{IfOk, slice_index_or}
use Rattle.capture.specs.Captures.{captures, captures_in}
use Rattle.capture.specs.declared.book.Book.{Book}
use Rattle.capture.specs.declared.limits.Limits.{Limits}
use Rattle.disk_model.specs.Crash.{Leaves}
use Rattle.disk_model.specs.Image.{Image, file_of}
use Rattle.disk_model.specs.declared.kind.Kind.TheVariants.{Warc}
use Rattle.disk_model.specs.declared.disk.Disk.{Ghosts}
use Rattle.warc_journal.specs.Extents.{warc_files}
use Rattle.warc_journal.specs.Journals.{Rests, disk_of, last_len, texts}
use Rattle.warc_journal.specs.Texts.{Hold}
use Rattle.warc_journal.specs.declared.journal.Journal.{Journal}
use Rattle.archive_shelf.specs.declared.fault.ReopenFault.{ReopenFault}
use Rattle.archive_volumes.proofs.ChangeLaws.{DiskLaws}
use Rattle.archive_volumes.proofs.RoomLaws.{last_long, texts_count}
use Rattle.archive_volumes.specs.Held.{book_of}
use Rattle.archive_opening.specs.Counting.{HasCountsOf, LastEndsAt, StandsUpTo}
use Rattle.archive_opening.specs.Opening.{IsUsable}
use Rattle.archive_gathering.specs.Shapes.{sealed_in}
use Rattle.archive_opening.specs.declared.opening.Opened.{Opened}
use Rattle.archive_core.specs.Holdings.{Holdings}
use Rattle.archive_reopening.specs.Making.{IsMadeOf}
use Rattle.archive_core.specs.Lasting.{KeepsStored}
use Rattle.archive_core.proofs.LastingLaws.{standing, standing_of}
use Rattle.archive_core.proofs.StoodLaws.{begin_held}
use Rattle.archive_reopening.specs.Standing.{KeepsOn, StoodOn}

module _ {D : Type 0} (d : Ghosts D) (laws : DiskLaws d) where
  -- what each image holds stands now
  keeps_opened : (now : Holdings D) → Leaves (d.images (disk_of now.journal)) (λ image. Hold (texts d now.journal) (warc_files image))
      → KeepsStored d (standing d now) now
  keeps_opened now held = record {
    stands = record {
      since = [];
      each = tt;
      book_is = refl;
      lasts = record {
        later = omega arith;
        images = λ image left. begin_held (texts d now.journal) (warc_files image) (held image (laws.now_only (disk_of now.journal) image left));
      };
      left = λ image left. inl (held image (laws.now_only (disk_of now.journal) image left));
      near = λ image left. inl (held image left);
      counted = omega arith;
      just = λ same few. held;
    };
    texts_are = refl;
  }

  -- what was opened stood on the disk
  pub stood_on : (disk : D) (told : Bool) (opened : Opened D) → IsTrue d.tells → IsUsable d told opened → Rests d disk (disk_of opened.journal)
      → d.faults (disk_of opened.journal) ≡ d.faults disk
      → HasCountsOf (d.reading disk) (book_of opened.gathered.held) → LastEndsAt (d.reading disk) (book_of opened.gathered.held) (last_len opened.journal) → d.images (disk_of opened.journal) (d.reading (disk_of opened.journal))
      → StoodOn d disk (standing_of d (book_of opened.gathered.held) opened.journal)
  stood_on disk told opened tells usable rests faults counts ends now = record {
    begun = disk_of opened.journal;
    rests = rests;
    moment_is = refl;
    faults_are = faults;
    counts = counts;
    count = texts_count d opened.journal (usable.in_step tells) ∙ usable.measured.count;
    held = subst (λ (i : Image). Hold (texts d opened.journal) (warc_files i)) rests.read
        (usable.left tells (d.reading (disk_of opened.journal)) now);
    ends = λ k last.
        let step = usable.in_step tells in
        let long : length (slice_index_or (texts d opened.journal) (length (texts d opened.journal) - 1) []) ≡ last_len opened.journal =
        ap (λ (n : ℕ). length (slice_index_or (texts d opened.journal) (n - 1) [])) (texts_count d opened.journal step)
        ∙ last_long d opened.journal step (omega (arith, last, usable.measured.count)) in
        subst (λ (n : ℕ). StandsUpTo k (book_of opened.gathered.held).namespace (length (captures_in (sealed_in (book_of opened.gathered.held).volumes)))
        (file_of (d.reading disk) Warc k)
        (length (captures (book_of opened.gathered.held)) - length (captures_in (sealed_in (book_of opened.gathered.held).volumes))) n) (sym long) (ends k last);
  }

  -- and the archive that is made of it keeps it
  pub keeps_made : (disk : D) (opened : Opened D) (limits : Limits) (told : Bool) (result : Result (Holdings D) (ReopenFault × D)) → IfOk result (IsMadeOf opened limits told)
      → (IsTrue d.tells → Leaves (d.images (disk_of opened.journal)) (λ image. Hold (texts d opened.journal) (warc_files image)))
      → (IsTrue d.tells → StoodOn d disk (standing_of d (book_of opened.gathered.held) opened.journal))
      → IfOk result (λ held. IsTrue d.tells → KeepsOn d disk held)
  keeps_made disk opened limits told (Ok held) made left on = λ tells. record {
    stood = standing d held;
    on = subst (λ (book : Book). StoodOn d disk (standing_of d book held.journal)) (sym made.book_is)
        (subst (λ (journal : Journal D). StoodOn d disk (standing_of d (book_of opened.gathered.held) journal)) (sym made.journal_is) (on tells));
    book_is = refl;
    keeps = keeps_opened held
        (subst (λ (journal : Journal D). Leaves (d.images (disk_of journal)) (λ image. Hold (texts d journal) (warc_files image))) (sym made.journal_is)
        (left tells));
  }
  keeps_made disk opened limits told (Err refused) made left on = tt
