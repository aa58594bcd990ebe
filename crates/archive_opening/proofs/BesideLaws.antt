-- What was gathered goes with a scan whose disk was lent for work that only reads.
use Rattle.std.proofs.Common.{◌≡◌, ℕ, IsTrue, List, sym, ap, subst, ◌∙◌, refl}
use Rattle.std.specs.Prelude.{IfSome, None, Option, Some}
use Rattle.capture.specs.declared.book.Book.{Book}
use Rattle.disk_model.specs.Image.{Image}
use Rattle.disk_model.specs.declared.disk.Disk.{Ghosts}
use Rattle.volume_scan.specs.Scannings.{disk_of, position_of, IsInPlace, ScansStayBesideOtherWork}
use Rattle.volume_scan.specs.declared.scanning.Scanning.{Scanning}
use Rattle.warc_journal.specs.Extents.{texts_in, warc_files}
use Rattle.warc_journal.specs.Journals.{Rests}
use Rattle.archive_volumes.specs.Spots.{AreWithin}
use Rattle.archive_gathering.specs.Gathering.{IsGathered}
use Rattle.archive_opening.specs.Telling.{AreReadOrTold, GoesWith, IsReadWhole, IsSettledFor, IsTold, ReadsWhole}
use Rattle.archive_gathering.specs.declared.gathered.Gathered.{Gathered}
use Rattle.archive_volumes.specs.Held.{book_of}
use Rattle.archive_opening.specs.Counting.{CountsUpTo}

module _ {D : Type 0} (d : Ghosts D) (old : Scanning D) (disk : D) (rests : IsTrue d.tells → Rests d (disk_of old) disk) (g : Gathered) where
  abbrev lent : Scanning D
  lent = record old { disk = disk }

  abbrev texts_of : Image → List (List ℕ)
  texts_of image = texts_in (position_of old).extent (warc_files image)

  told_beside : (known : Option Book) → IfSome known (λ book. IsTold d book old g) → IfSome known (λ book. IsTold d book lent g)
  told_beside None told = tt
  told_beside (Some book) told =
      let same = sym (rests told.tells).read in
      record {
        tells = told.tells;
        settled = subst (λ (i : Image). IsSettledFor i book) same told.settled;
        gathered = subst (λ (i : Image). IsGathered (Some book) g (texts_of i)) same told.gathered;
        behind = told.behind;
      }

  pub goes_beside : (known : Option Book) → GoesWith d known old g → GoesWith d known lent g
  goes_beside known goes = record {
    volumes = goes.volumes;
    none = goes.none;
    count = goes.count;
    namespace = goes.namespace;
    filled = goes.filled;
    begins = goes.begins;
    within = λ tells. subst (λ (i : Image). AreWithin (texts_of i) g.spots.items) (sym (rests tells).read) (goes.within tells);
    lined = λ tells. subst (λ (i : Image). AreReadOrTold i g.spots.items) (sym (rests tells).read) (goes.lined tells);
    numbered = goes.numbered;
    requested = goes.requested;
    made = goes.made;
    told = told_beside known goes.told;
  }

  pub whole_beside : ReadsWhole d old g → ReadsWhole d lent g
  whole_beside reads =
      let follows = reads.follows in
      record {
        tells = reads.tells;
        whole = subst IsReadWhole (sym (rests reads.tells).read) reads.whole;
        follows = record {
          texts = follows.texts;
          gathered = follows.gathered;
          volumes = follows.volumes;
          none = follows.none;
          ends = follows.ends;
          count = follows.count;
          namespace = follows.namespace;
          whole = follows.whole;
          read = λ tells. ap texts_of (rests tells).read ∙ follows.read tells;
        };
      }

  pub place_beside : ScansStayBesideOtherWork d → IsInPlace d old → IsInPlace d lent
  place_beside stay at = stay old disk (λ tells. ap (λ (i : Image). warc_files i) (rests tells).read)
      (λ tells image left. record { before = image; was = (rests tells).crash image left; same = refl }) at

  pub counts_beside : (IsTrue d.tells → CountsUpTo (d.reading (disk_of old)) (position_of old) (book_of g.held)) → IsTrue d.tells
      → CountsUpTo (d.reading disk) (position_of old) (book_of g.held)
  counts_beside counts tells = subst (λ (i : Image). CountsUpTo i (position_of old) (book_of g.held)) (sym (rests tells).read) (counts tells)

-- what is said of the disk that was lent is said of the scan's
pub rests_lent : {D : Type 0} (d : Ghosts D) (was old new : D) → was ≡ old → (IsTrue d.tells → Rests d was new) → IsTrue d.tells → Rests d old new
rests_lent {D} d was old new same rests tells = subst (λ (x : D). Rests d x new) same (rests tells)
