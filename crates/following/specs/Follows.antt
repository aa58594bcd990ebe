-- What the command `follow` leaves.
use Rattle.std.specs.Prelude.{◌≡◌, ◌⊎◌, ℕ, Bool, List, length, IsTrue, Option, Result, MatchResult, ⊤}
use Rattle.archive_core.specs.Holdings.{Holdings}
use Rattle.archive_shelf.specs.Answers.{CountsIf}
use Rattle.checkpoint.specs.OfVolume.{HasCheckpointsOf}
use Rattle.archive_shelf.specs.Openings.{HasIds, ImageStandsFor, Moves, SameBook, StaysCovered}
use Rattle.archive_volumes.specs.Volumes.{OpensNear, crash_of}
use Rattle.capture.specs.Captures.{captures}
use Rattle.capture.specs.declared.book.Book.{Book}
use Rattle.capture.specs.declared.site.Site.{Site}
use Rattle.disk_model.specs.Crash.{Leaves}
use Rattle.disk_model.specs.Image.{Image}
use Rattle.disk_model.specs.declared.disk.Disk.{Ghosts as Disks}
use Rattle.exchange.specs.declared.aim.Target.{Target}
use Rattle.outside.specs.declared.dialer.Dialer.{Ghosts as Dialers}
use Rattle.outside.specs.declared.sink.Sink.{Ghosts as Sinks}
use Rattle.replica.specs.Following.{HasFollowed, HaveIds, IsOfRefused, IsOnWay, OpensAtLast, OpensBehind, is_disk_stop, is_outside_stop}
use Rattle.archive_reopening.specs.Known.{by_checkpoints}
use Rattle.archive_reopening.specs.Standing.{KeepsFinished}
use Rattle.command.specs.Objects.{Objects}
use Rattle.command.specs.Opening.{IsOpened}
use Rattle.command.specs.Printing.{LacksMemory, Printed, Prints, printed_as}
use Rattle.command.specs.Texts.{captures_line}
use Rattle.replica.specs.Sources.{source_of}
use Rattle.following.specs.StopTexts.{TellsStop}
use Rattle.replica.specs.declared.following.Stop.{Stop}
use Rattle.command.specs.declared.status.Status.{Status}
use Rattle.command.specs.declared.status.Status.TheVariants.{Done}
use Rattle.warc_journal.specs.Journals.{disk_of}

module _ {D N M O : Type 0} (disks : Disks D) (dialers : Dialers N M) (sinks : Sinks O) (tells : Bool) (source : Target) where
  -- A source was followed by an archive, with a dialer. How many captures there are was printed, or why no more were taken; or there was no
  -- memory.
  pub record FollowsTo (was is : Holdings D) (dialer_was dialer_is : N) (output : Printed O) : Type 0 where
    pub result : Result ⊤ Stop
    pub followed : HasFollowed disks source tells was is (dialers.links dialer_was) (dialers.links dialer_is) result
    pub dialer_faults : CountsIf (is_outside_stop result) (dialers.faults dialer_was) (dialers.faults dialer_is)
    pub told : MatchResult result
        (λ done. Prints sinks Done (captures_line (length (captures is.book))) output.was output.is output.status
        ⊎ LacksMemory sinks output.was output.is output.status)
        (λ stop. TellsStop sinks stop output.was output.is output.status)

module _ {D N M C O : Type 0} (disks : Disks D) (dialers : Dialers N M) (sinks : Sinks O) (tells : Bool) (known : Option Book) where
  -- The archive on a disk was opened by its checkpoints, over which nothing was written, and followed the source at the site, by a member's dialer; its clock wasn't asked, and no gate. Where the
  -- book is told, whatever a crash leaves since an earlier moment stands for a sound book where it did before; and what it may leave at last is the last book alone, but for
  -- what a refusal by the disk may leave.
  pub record Follows (asked : Option (List ℕ)) (site : Site) (was is : Objects D ⊤ (N × C) O) (status : Status) : Type 0 where
    pub before : Holdings D
    pub after : Holdings D
    pub opened : IsOpened disks (by_checkpoints was.disk asked known) before
    pub follows : FollowsTo disks dialers sinks tells (source_of site) before after was.crew.0 is.crew.0 (printed_as was.out is.out status)
    pub closed : is.disk ≡ disk_of after.journal
    pub near : IsTrue before.told → OpensNear disks is.disk after.book
    -- whatever is told of the book, no finished text of its volumes lost a byte, at whatever moment a crash stopped that
    pub bytes : IsTrue disks.tells → KeepsFinished disks was.disk is.disk
    -- the finished checkpoints of each image that a crash may leave are those of its sealed volumes
    pub right : IsTrue before.told → Leaves (disks.images is.disk) (λ image. HasCheckpointsOf image after.book)
    pub covered : IsTrue before.told → StaysCovered (crash_of disks was.disk) (crash_of disks is.disk)
    pub disk_faults : CountsIf (is_disk_stop follows.result) (disks.faults was.disk) (disks.faults is.disk)
    pub moves : IsTrue before.told → HaveIds follows.followed.steps → HasIds follows.followed.reached.book
        → Moves (crash_of disks was.disk) (crash_of disks is.disk)
        (λ x. IsOnWay follows.followed.steps x ⊎ IsOfRefused follows.result follows.followed.refused follows.followed.reached x)
    pub left : IsTrue before.told → HasIds before.book → HaveIds follows.followed.steps → HasIds follows.followed.reached.book
        → (image : Image) (x : Book) → disks.images is.disk image → ImageStandsFor image x
        → OpensAtLast follows.result follows.followed.refused follows.followed.reached after.book
        (OpensBehind follows.followed.steps follows.followed.reached.book (λ b. SameBook b before.book)) x
    pub same_clock : is.crew.1 ≡ was.crew.1
