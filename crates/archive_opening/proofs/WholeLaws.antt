-- Where each volume is read whole, what was gathered follows the scan.
use Rattle.std.proofs.Common.{◌≡◌, ℕ, ◌^◌, ◌<◌, Bool, IsTrue, List, sym, subst, ◌∙◌}
use Rattle.std.specs.Prelude.{None, Option, Some}
use Rattle.disk_model.specs.Image.{Image}
use Rattle.disk_model.specs.declared.disk.Disk.{Ghosts}
use Rattle.volume_scan.specs.Scannings.{Finds, disk_of, position_of}
use Rattle.volume_scan.specs.declared.found.Found.{Found}
use Rattle.volume_scan.specs.declared.found.Found.TheVariants.{Info, Group, End}
use Rattle.volume_scan.specs.declared.scanning.Scanning.{Scanning}
use Rattle.warc_journal.specs.Journals.{Rests, disk_of as disk_of_journal, extent_of, last_len}
use Rattle.warc_journal.specs.declared.journal.Journal.{Journal}
use Rattle.archive_volumes.specs.Held.{book_of}
use Rattle.archive_opening.proofs.FollowingLaws.{follows_group, follows_info, has_all, some_texts}
use Rattle.archive_opening.proofs.OpenedLaws.{measured}
use Rattle.archive_opening.proofs.StepLaws.{group_at}
use Rattle.archive_shelf.specs.declared.fault.ReopenFault.{ReopenFault}
use Rattle.archive_shelf.specs.declared.fault.ReopenFault.TheVariants as faults
use Rattle.archive_gathering.specs.Gathering.{Gathers}
use Rattle.archive_opening.specs.Following.{Follows, HasAll}
use Rattle.archive_opening.specs.Opening.{IsOutside, IsReadRefusal}
use Rattle.archive_opening.specs.Telling.{IsReadWhole, ReadsWhole, ReadsWholeTo, step_of, IsKnownRefusal}
use Rattle.archive_gathering.specs.declared.gathered.Gathered.{Gathered}
use Rattle.capture.specs.declared.book.Book.{Book}

module _ {D : Type 0} (d : Ghosts D) (old new : Scanning D) (was is : Gathered) (reads : ReadsWhole d old was)
    (rests : IsTrue d.tells → Rests d (disk_of old) (disk_of new)) where
  whole_still : Follows d new is → ReadsWhole d new is
  whole_still follows = record {
    tells = reads.tells;
    whole = subst (λ (i : Image). IsReadWhole i) (sym (rests reads.tells).read) reads.whole;
    follows = follows;
  }

  -- after a step
  pub whole_step : (found : Found) (more : Bool) → Finds d old new found → Gathers None was is reads.follows.texts found more
      → ReadsWholeTo d new is (step_of found)
  whole_step (Info volume namespace born) more one gathers =
      let begun = gathers.1 one.text (one.number ∙ reads.follows.volumes) one.is in
      whole_still (follows_info d old new was is reads.follows volume namespace born one begun.gathered begun.count begun.namespace_is)
  whole_step (Group place read) more on gathers =
      let taken = gathers.1 on.text (group_at d old new was is reads.follows place read.group on) tt in
      whole_still (follows_group d old new was is reads.follows place read.group on (some_texts d old new was is reads.follows place read.group on) taken.gathered
      taken.count taken.namespace_is)
  whole_step End more ends gathers = subst (HasAll d new) (sym gathers.1) (has_all d old new was rests reads.follows ends)

-- where all was gathered so, the last text isn't too long
pub short_whole : {D : Type 0} (d : Ghosts D) (s : Scanning D) (g : Gathered) (all : HasAll d s g) (journal : Journal D)
    → disk_of_journal journal ≡ disk_of s → extent_of journal ≡ (position_of s).extent → last_len journal < 2 ^ 62
short_whole d s g all journal disk_is extent_is = (measured d s g all journal disk_is extent_is (book_of g.held) all.follows.gathered.read).ends

-- a cause that isn't in the files refuses no reading of them
pub outside_refuses : (files : List (List ℕ)) (fault : ReopenFault) → IsOutside fault → IsReadRefusal files fault
outside_refuses files (faults.Damaged kind file place) outside = absurd outside
outside_refuses files (faults.OtherNamespace other) outside = outside
outside_refuses files faults.DiskFault outside = tt
outside_refuses files faults.Memory outside = tt

-- nor that of a known book
pub outside_known : (known : Option Book) (fault : ReopenFault) → IsOutside fault → IsKnownRefusal known fault
outside_known None fault outside = tt
outside_known (Some book) fault outside = outside
