-- An archive after a call that only reads its disk.
use Rattle.std.proofs.Common.{◌≡◌, ℕ, ◌<◌, ◌≤◌, IsTrue, List, Some, Result, Ok, Err, refl, sym, ap, subst, ◌∙◌, arith}
use Rattle.std.specs.Prelude.{count_by, length, slice_get}
use Rattle.capture.proofs.GrowthLaws.{grows_from_itself}
use Rattle.capture.specs.Captures.{captures}
use Rattle.capture.specs.declared.book.Book.{Book}
use Rattle.capture.specs.declared.captured.Brought.{Brought}
use Rattle.index_entry.specs.OfBook.{AreOf, IsEntryOf}
use Rattle.disk_model.specs.Crash.{Leaves}
use Rattle.disk_model.specs.Image.{Image}
use Rattle.disk_model.specs.declared.disk.Disk.{Ghosts}
use Rattle.warc_journal.specs.Extents.{texts_in, warc_files}
use Rattle.warc_journal.specs.Journals.{Rests, disk_of, extent_of, texts}
use Rattle.warc_journal.specs.declared.extent.Extent.{Extent}
use Rattle.warc_journal.specs.declared.journal.Journal.{Journal}
use Rattle.capture.specs.declared.captured.Stored.{Stored}
use Rattle.archive_shelf.specs.Answers.{AgreesAt, Brings, ShowsNone}
use Rattle.archive_shelf.specs.Storing.{is_revisit}
use Rattle.archive_shelf.specs.declared.fault.BringFault.{BringFault}
use Rattle.archive_shelf.specs.declared.fault.BringFault.TheVariants as brings
use Rattle.archive_volumes.proofs.ChangeLaws.{DiskLaws, laws_muted}
use Rattle.archive_volumes.proofs.StoreLaws.{quiet_itself}
use Rattle.archive_volumes.proofs.WrittenLaws.{rests_itself}
use Rattle.archive_reading.specs.Bringing.{BringsFrom, OnlyReads}
use Rattle.archive_volumes.specs.Volumes.{CanReadBy, HoldsBook, IsMeasured, IsQuiet, muted}
use Rattle.archive_volumes.specs.Held.{book_of}
use Rattle.archive_settling.proofs.FinishedLaws.{first_stay}
use Rattle.archive_settling.specs.Finished.{FirstAreFinished}
use Rattle.archive_core.specs.Holdings.{Holdings, IsArchive, contents_of}
use Rattle.archive_core.specs.Looking.{OnlyLooks}
use Rattle.archive_volumes.specs.Spots.{AreHeldWhole, ArePlaced, AreSpotsOf, AreWithin}
use Rattle.archive_volumes.specs.declared.volumes.Volumes.{Volumes}
use Rattle.archive_index.proofs.ShownLaws.{shown_from}
use Rattle.archive_core.proofs.TellingLaws.{quiet_muted}
use Rattle.archive_core.proofs.NamedLaws.{as_shown}
use Rattle.archive_reading.specs.Digests.{BringsDigest}
use Rattle.archive_volumes.specs.declared.spot.Spot.{Spot}

-- what is read of an archive goes by its spots
pub readable : {D : Type 0} (d : Ghosts D) {held : Holdings D} → IsArchive d held → CanReadBy d held.told held.journal held.book held.spots
readable d is = record { holds = is.holds; measured = is.measured; are = is.spots; within = is.within; placed = is.placed }

module _ {D : Type 0} (d : Ghosts D) (held : Holdings D) (old new : Volumes D)
    (journal_is : held.journal ≡ old.journal) (book_is : held.book ≡ book_of old.held) (reads : OnlyReads d old new) where
  pub same_book : book_of new.held ≡ held.book
  same_book = ap book_of reads.held ∙ sym book_is

  same_texts : IsTrue d.tells → texts d new.journal ≡ texts d held.journal
  same_texts told =
      ap (λ (extent : Extent). texts_in extent (warc_files (d.reading (disk_of new.journal)))) reads.extent
      ∙ ap (λ (image : Image). texts_in (extent_of old.journal) (warc_files image)) (reads.reading told)
      ∙ sym (ap (λ (j : Journal D). texts d j) journal_is)

  same_reading : IsTrue d.tells → d.reading (disk_of new.journal) ≡ d.reading (disk_of held.journal)
  same_reading told = reads.reading told ∙ sym (ap (λ (j : Journal D). d.reading (disk_of j)) journal_is)

  -- it stays an archive
  pub reads_archive : IsArchive d held → IsArchive d (record held { journal = new.journal; book = book_of new.held })
  reads_archive is = record {
    holds = reads.holds held.told (subst (λ (b : Book). HoldsBook d held.told old.journal b) book_is (subst (λ (j : Journal D). HoldsBook d held.told j held.book) journal_is is.holds));
    measured = reads.measured (subst (λ (b : Book). IsMeasured old.journal b) book_is (subst (λ (j : Journal D). IsMeasured j held.book) journal_is is.measured));
    counted = record {
      few = omega (arith, is.counted.few, ap (λ (b : Book). length (captures b)) same_book);
      revisits = is.counted.revisits ∙ sym (ap (λ (b : Book). count_by (λ (stored : Stored). is_revisit stored.kept) (captures b)) same_book);
      found = omega (arith, is.counted.found, ap (λ (b : Book). length (captures b)) same_book);
      below = λ entry has. omega (arith, is.counted.below entry has, ap (λ (b : Book). length (captures b)) same_book);
      limits = is.counted.limits;
      sealed = omega (arith, is.counted.sealed, ap (λ (b : Book). length b.volumes) same_book);
    };
    spots = subst (λ (b : Book). AreSpotsOf b held.spots) (sym same_book) is.spots;
    table = is.table;
    indexed = is.indexed;
    named = is.named;
    within = λ tells. subst (λ (all : List (List ℕ)). AreWithin all held.spots) (sym (same_texts tells)) (is.within tells);
    placed = λ told. subst (λ (b : Book). ArePlaced (texts d new.journal) b held.spots) (sym same_book)
        (subst (λ (all : List (List ℕ)). ArePlaced all held.book held.spots) (sym (same_texts (is.holds.tells told))) (is.placed told));
    made = λ untold. subst (λ (b : Book). AreHeldWhole b held.spots) (sym same_book) (is.made untold);
    known = λ told. subst (λ (b : Book). AreOf b held.index) (sym same_book) (is.known told);
    settled = λ told. subst (λ (b : Book). Leaves (d.images (disk_of new.journal)) (FirstAreFinished b held.settled)) (sym same_book)
        (first_stay d held.told (disk_of held.journal) (disk_of new.journal) held.book held.book held.settled (grows_from_itself held.book) is.counted.sealed
        (quiet_muted d held.told is.holds.tells (disk_of held.journal) (disk_of new.journal)
        (subst (λ (j : Journal D). IsQuiet d (disk_of j) (disk_of new.journal)) (sym journal_is) reads.quiet)).kept is.settled told);
  }

  pub looks : (IsTrue held.told → IsTrue d.tells) → OnlyLooks d held (record held { journal = new.journal; book = book_of new.held })
  looks only = record {
    others = ap (λ (b : Book). record held { journal = new.journal; book = b }) same_book;
    extent = reads.extent ∙ sym (ap (λ (j : Journal D). extent_of j) journal_is);
    bytes = λ tells. subst (λ (j : Journal D). Rests d (disk_of j) (disk_of new.journal)) (sym journal_is) (reads.rests tells);
    unwritten = record {
      reading = λ alone told. same_reading (only told);
      crash = quiet_muted d held.told only (disk_of held.journal) (disk_of new.journal)
          (subst (λ (j : Journal D). IsQuiet d (disk_of j) (disk_of new.journal)) (sym journal_is) reads.quiet);
    };
  }

-- where nothing was asked of the disk
pub looks_itself : {D : Type 0} (d : Ghosts D) → DiskLaws d → (was : Holdings D) → OnlyLooks d was was
looks_itself d laws was = record {
  others = refl;
  extent = refl;
  bytes = λ tells. rests_itself d (disk_of was.journal);
  unwritten = record {
    reading = λ alone told. refl;
    crash = quiet_itself (muted was.told d) (laws_muted d was.told laws) (disk_of was.journal);
  };
}

-- an entry that is shown under a number is that of the book's capture
pub agrees : {D : Type 0} (d : Ghosts D) (held : Holdings D) (number : ℕ) → IsArchive d held → IsTrue held.told
    → AgreesAt (contents_of held) number
agrees d held number is told entry has same =
    subst (λ (n : ℕ). IsEntryOf held.book n entry) same ((is.known told).each entry (shown_from held.index entry has))

-- and none is shown under one that no capture has
pub none_shown : {D : Type 0} (d : Ghosts D) (held : Holdings D) (number : ℕ) → IsArchive d held → length (captures held.book) ≤ number
    → ShowsNone (contents_of held) number
none_shown d held number is above entry has same =
    omega (arith, is.counted.below entry (shown_from held.index entry has), above, same)

-- what bringing a capture that is there answers
pub brings_by : {D : Type 0} (d : Ghosts D) (held : Holdings D) (number : ℕ) (result : Result Brought BringFault) → IsArchive d held
    → number < length (captures held.book) → BringsFrom held.told held.book number result
    → ((spot : Spot) → slice_get held.spots number ≡ Some spot → BringsDigest spot.digest result)
    → Brings (contents_of held) number result
brings_by d held number (Ok brought) is below answer own =
    (below, answer.0, answer.1, (λ told. (answer.2 told, agrees d held number is told)), as_shown d held number is brought answer.1 own)
brings_by d held number (Err (brings.NoSuch count)) is below answer own = absurd answer
brings_by d held number (Err brings.DiskFault) is below answer own = below
brings_by d held number (Err (brings.Damaged at kept found)) is below answer own = (below, answer.0, answer.1, answer.2)
brings_by d held number (Err brings.Memory) is below answer own = tt
