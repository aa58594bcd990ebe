-- What isn't gone on with, as bytes bear it out.
use Rattle.std.proofs.Common.{◌≡◌, ℕ, ◌+◌, ◌^◌, ◌<◌, ◌≤◌, IsTrue, List, [], drop, get_or, length, refl, sym, ap, subst, ◌∙◌, inl, inr, arith}
use Rattle.std.specs.Prelude.{Option, Some, None}
use Rattle.capture.specs.declared.book.Book.{Book}
use Rattle.disk_model.specs.Image.{Image, file_of}
use Rattle.disk_model.specs.declared.disk.Disk.{Ghosts}
use Rattle.disk_model.specs.declared.kind.Kind.TheVariants.{Warc}
use Rattle.volume_scan.specs.Books.{FilesBeginWithWhatWasRead}
use Rattle.volume_scan.specs.Damage.{IsDamagedAt}
use Rattle.volume_scan.specs.Scannings.{Finds, IsInPlace, disk_of, files_in, position_of}
use Rattle.volume_scan.specs.declared.found.Found.{Found}
use Rattle.volume_scan.specs.declared.found.Found.TheVariants.{Info, Group, End}
use Rattle.volume_scan.specs.declared.scanning.Scanning.{Scanning}
use Rattle.warc_journal.specs.Extents.{warc_files}
use Rattle.warc_journal.specs.Journals.{Rests}
use Rattle.archive_shelf.specs.declared.fault.ReopenFault.{ReopenFault}
use Rattle.archive_shelf.specs.declared.fault.ReopenFault.TheVariants as faults
use Rattle.archive_volumes.specs.Held.{book_of}
use Rattle.archive_opening.proofs.CountLaws.{before, behind, front, info}
use Rattle.archive_opening.proofs.SkipLaws.{file_is, rest_is_drop}
use Rattle.archive_opening.specs.Counting.{AreCounted, CountsOn, HasCountsOf, HasInfo}
use Rattle.archive_opening.specs.Opening.{IsOutside}
use Rattle.archive_gathering.specs.Refusing.{IsOther, IsUnfit, IsUnfitAt, IsUnfitGroup}
use Rattle.archive_opening.specs.Refusing.{BreaksOffAt, IsBorneOut, IsCountedTo}
use Rattle.archive_opening.specs.Telling.{GoesWith}
use Rattle.archive_gathering.specs.declared.gathered.Gathered.{Gathered}

-- nothing that the files hold is the cause
pub outside_borne_out : (image : Image) (fault : ReopenFault) → IsOutside fault → IsBorneOut image fault
outside_borne_out image (faults.Damaged kind file place) outside = absurd outside
outside_borne_out image (faults.OtherNamespace other) outside = absurd outside
outside_borne_out image faults.DiskFault outside = tt
outside_borne_out image faults.Memory outside = tt

-- another namespace than the one that is asked for
pub other_borne_out : (image : Image) (book : Book) (asked : Option (List ℕ)) (fault : ReopenFault) → HasCountsOf image book → 0 < length book.volumes
    → IsOther book asked fault → IsBorneOut image fault
other_borne_out image book asked (faults.Damaged kind file place) counts some other = absurd other
other_borne_out image book None (faults.OtherNamespace name) counts some other = absurd other
other_borne_out image book (Some namespace) (faults.OtherNamespace name) counts some other =
    record { book = book; counts = counts; some = some; namespace = other.0 }
other_borne_out image book asked faults.DiskFault counts some other = absurd other
other_borne_out image book asked faults.Memory counts some other = absurd other

-- so long a text is in its file
pub long_file : {D : Type 0} (d : Ghosts D) (s : Scanning D) → IsInPlace d s → IsTrue d.tells → (file : ℕ) → file + 1 ≡ (position_of s).extent.volumes
    → 2 ^ 62 ≤ (position_of s).extent.end → 2 ^ 62 ≤ length (file_of (d.reading (disk_of s)) Warc file)
long_file d s in_place tells file last long =
    omega (arith, long, (in_place.stands tells).lies.within file last, ap length (file_is (d.reading (disk_of s)) file))

-- a last volume that is too long
pub long_borne_out : (image : Image) (book : Book) (file : ℕ) (fault : ReopenFault) → fault ≡ faults.Damaged Warc file 0 → HasCountsOf image book
    → file + 1 ≡ length book.volumes → 2 ^ 62 ≤ length (file_of image Warc file) → IsBorneOut image fault
long_borne_out image book file fault is counts last long =
    subst (IsBorneOut image) (sym is) (inr (record { book = book; counts = counts; file_is = last; place_is = refl; long = long }))

module _ {D : Type 0} (d : Ghosts D) (known : Option Book) (old : Scanning D) (was : Gathered) (goes : GoesWith d known old was)
    (was_in : IsInPlace d old) (tells : IsTrue d.tells) (counts : CountsOn (d.reading (disk_of old)) (position_of old) (book_of was.held)) where
  abbrev image : Image
  image = d.reading (disk_of old)

  abbrev book : Book
  book = book_of was.held

  counted : IsCountedTo image (position_of old) book
  counted = record {
    volumes = goes.volumes;
    captures_are = goes.count;
    namespace = goes.namespace;
    lies = (was_in.stands tells).lies;
    counts = counts;
  }

  -- where the scan finds damage
  pub scan_borne_out : (file place : ℕ) → IsDamagedAt (position_of old) (files_in d old) file place → IsBorneOut image (faults.Damaged Warc file place)
  scan_borne_out file place damaged = inl (record { book = book; position = position_of old; counted = counted; cause = inl damaged })

  module _ (new : Scanning D) (is : Gathered) (in_place : IsInPlace d new) (rests : Rests d (disk_of old) (disk_of new)) (begin : FilesBeginWithWhatWasRead) where
    breaks_off : (found : Found) → Finds d old new found → (file place : ℕ) → IsUnfitAt book found file place → BreaksOffAt image file place
    breaks_off (Info volume namespace born) one file place unfit = record {
      book = book;
      position = position_of old;
      counted = counted;
      cause = inr (inl (record {
        file_is = unfit.0 ∙ one.number;
        place_is = unfit.1;
        namespace = namespace;
        info = subst (HasInfo image namespace) (sym unfit.0)
            (subst (λ (i : Image). HasInfo i namespace volume) rests.read
            (length one.text, info d known old new was is goes was_in in_place rests tells begin counts volume namespace born one));
        before = subst (λ (i : Image). AreCounted i book.namespace book.volumes) rests.read
            (before d known old new was is goes was_in in_place rests tells begin counts volume namespace born one);
        cause = unfit.2 (one.number ∙ goes.volumes);
      }));
    }
    breaks_off (Group at read) on file place unfit =
        let end = (position_of old).extent.end in
        record {
          book = book;
          position = position_of old;
          counted = counted;
          cause = inr (inr (record {
            at = at;
            group = read.group;
            file_is = unfit.0;
            place_is = unfit.1;
            last = on.volume;
            behind = on.at;
            len = on.len ∙ sym on.is.places.len;
            begins = record {
              text = on.text;
              rest = (front d known old new was is goes was_in in_place rests tells begin counts at read.group on).0;
              composed = rest_is_drop (position_of old) (files_in d old) at.volume on.volume
                  ∙ ap (λ (i : Image). drop end (get_or (warc_files i) at.volume [])) (sym rests.read)
                  ∙ ap (drop end) (sym (file_is (d.reading (disk_of new)) at.volume))
                  ∙ behind d known old new was is goes was_in in_place rests tells begin counts at read.group on;
              is = on.is;
            };
            cause = subst (λ (n : ℕ). IsUnfitGroup n at read.group) (sym goes.count) unfit.2;
          }));
        }
    breaks_off End ends file place unfit = absurd unfit

    -- where what was found isn't gathered
    pub found_borne_out : (found : Found) → Finds d old new found → (fault : ReopenFault) → IsUnfit book found fault → IsBorneOut image fault
    found_borne_out found finds (faults.Damaged kind file place) unfit = inl (breaks_off found finds file place unfit)
    found_borne_out found finds (faults.OtherNamespace other) unfit = absurd unfit
    found_borne_out found finds faults.DiskFault unfit = absurd unfit
    found_borne_out found finds faults.Memory unfit = tt
