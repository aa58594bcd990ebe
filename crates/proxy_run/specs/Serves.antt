-- What the command `serve` leaves.
use Rattle.std.specs.Prelude.{◌≡◌, ◌≢◌, ◌⊎◌, ℕ, ◌-◌, List, ◌∷◌, false, drop, length, slice_get, All, IfSome, IsTrue, IsPermutation, Option, None}
use Rattle.std.specs.List.{flat_map, range_with_len, sum_by}
use Rattle.std.specs.List.Sorted.{IsStrictlyIncreasing}
use Rattle.archive_core.specs.Holdings.{Holdings, contents_of}
use Rattle.archive_reopening.specs.Known.{by_checkpoints}
use Rattle.archive_reopening.specs.Standing.{LeavesStored}
use Rattle.archive_core.specs.Told.{told_of}
use Rattle.checkpoint.specs.OfVolume.{HasCheckpointsOf}
use Rattle.archive_shelf.specs.Contents.{Contents}
use Rattle.archive_shelf.specs.Openings.{HasIds, IsState}
use Rattle.archive_shelf.specs.Told.{Told}
use Rattle.archive_volumes.specs.Volumes.{OpensNear}
use Rattle.capture.specs.Captures.{captures}
use Rattle.capture.specs.Faults.{RoseBy}
use Rattle.capture.specs.Growth.{Grows}
use Rattle.capture.specs.declared.book.Book.{Book}
use Rattle.capture.specs.declared.site.Site.{Site}
use Rattle.index_entry.specs.OfBook.{AreEntries}
use Rattle.disk_model.specs.Crash.{Leaves}
use Rattle.disk_model.specs.Image.{no_files}
use Rattle.outside.specs.declared.sink.Sink.{Ghosts as Sinks}
use Rattle.crew.specs.Crews.{IsEnd, ServesAll}
use Rattle.command.specs.Objects.{Kinds, Objects}
use Rattle.command.specs.Printing.{LacksMemory, Printed, Prints, printed_as}
use Rattle.command.specs.Settling.{ClosesSettled, OpensSettled}
use Rattle.crew.specs.Shifts.{hands_of}
use Rattle.command.specs.Texts.{captures_line}
use Rattle.command.specs.declared.status.Status.{Status}
use Rattle.command.specs.declared.status.Status.TheVariants.{Memory}
use Rattle.vault.specs.Company.{untold}
use Rattle.warc_journal.specs.Journals.{disk_of}

-- What is told of one of many shelves over an archive: its number among them, its contents, and how many faults of the disk it met itself.
pub record Seat : Type 0 where
  pub number : ℕ
  pub contents : Contents
  pub faults : ℕ

-- In company neither reads nor what a crash may leave are told. Before the captures that a shelf stored its number is told: so who gets it
-- back knows which one it is.
abbrev pub told_by : Seat → Told
told_by seat = record {
  contents = record seat.contents { mine = seat.number ∷ seat.contents.mine };
  faults = seat.faults;
  reading = no_files;
  crash = untold;
}

-- Between two books, these shelves stored just the captures behind those of the first one, each once: each by rising numbers, and what it has
-- seen has grown into the last one.
pub record IsSharedOut (before : Book) (seats : List Seat) (after : Book) : Type 0 where
  pub grows : Grows before after
  pub each : (k : ℕ) → IfSome (slice_get seats k) (λ (seat : Seat). Grows seat.contents.seen after × IsStrictlyIncreasing seat.contents.mine)
  pub once : IsPermutation (flat_map (λ (seat : Seat). seat.contents.mine) seats)
      (range_with_len (length (captures before)) (length (captures after) - length (captures before)))

-- How many captures there are was printed, or a front of that where the output failed, or there was no memory. The status says which, but where memory was
-- wanting before: that goes before every other status.
pub record TellsCount {O : Type 0} (sinks : Sinks O) (count : ℕ) (said : Status) (output : Printed O) : Type 0 where
  pub printed : Status
  pub prints : Prints sinks said (captures_line count) output.was output.is printed ⊎ LacksMemory sinks output.was output.is printed
  pub lacking : said ≡ Memory → output.status ≡ Memory
  pub status_is : said ≢ Memory → output.status ≡ printed

-- what a server is started for: the namespace that is asked for, if one is, where the clients come to, and how many members of the crew serve
pub record Duty : Type 0 where
  pub asked : Option (List ℕ)
  pub site : Site
  pub workers : ℕ

module _ {D G L P N M C O : Type 0} (kinds : Kinds D G L P N M C O) (known : Option Book) where
  -- The archive was opened, and the checkpoints that were missing were written. The gate's connections were served over it by so many members
  -- of the crew, of whom each had a shelf of its own; the others stay. How many captures there are was printed, and then the checkpoints that
  -- were missing by then were written. So there are four disks: as it was given, was settled, was served over, and was settled at last. What
  -- hangs on the links is said where they tell their traffic, and what hangs on the disk where the book is told.
  pub record Serves (duty : Duty) (was is : Objects D G (List (N × C)) O) (status : Status) : Type 0 where
    pub before : Holdings D
    pub after : Holdings D
    pub starts : List Seat
    pub seats : List Seat
    pub said : Status
    pub counted : Status
    pub opened : OpensSettled kinds.disks (by_checkpoints was.disk duty.asked known) before
    -- each shelf began with the archive that was opened, had stored nothing and met no fault; where the book is told, it showed the entries of that
    pub new : All (λ (seat : Seat). (seat.contents ≡ record (contents_of before) { shown = seat.contents.shown })
        × (IsTrue before.told → AreEntries before.book seat.contents.shown) × (seat.faults ≡ 0)) starts
    pub workers_are : length starts ≡ duty.workers
    pub count : length seats ≡ duty.workers
    pub serves : IsTrue kinds.clients_tell → IsTrue kinds.origins_tell
        → ServesAll (record { alone = false; told = told_by; setting = record { site = duty.site; clock_tells = kinds.clocks.tells } })
        (kinds.gates.connections was.gate) (kinds.gates.connections is.gate)
        (hands_of kinds.dialers kinds.clocks starts was.crew) (hands_of kinds.dialers kinds.clocks seats is.crew)
    pub ended : IsEnd (kinds.gates.closed is.gate) (kinds.gates.faults was.gate) (kinds.gates.faults is.gate) said
    pub shared : IsSharedOut before.book seats after.book
    pub same_told : after.told ≡ before.told
    pub disk_faults : RoseBy (sum_by (λ (seat : Seat). seat.faults) seats) (kinds.disks.faults (disk_of before.journal)) (kinds.disks.faults (disk_of after.journal))
    pub told : TellsCount kinds.sinks (length (captures after.book)) said (printed_as was.out is.out counted)
    pub closed : ClosesSettled kinds.disks after counted is.disk status
    -- where the members met no fault of the disk and ids differ, only the last book may be opened of what they leave
    pub only : sum_by (λ (seat : Seat). seat.faults) seats ≡ 0 → HasIds after.book → IsState (told_of kinds.disks after).crash after.book None
    -- where the book is told, the finished checkpoints of each image that they leave are those of the last book
    pub right : IsTrue after.told → Leaves (kinds.disks.images (disk_of after.journal)) (λ image. HasCheckpointsOf image after.book)
    pub near : IsTrue before.told → OpensNear kinds.disks is.disk after.book
    -- whatever is told of the book, each capture that was stored stands with just its records, from its store on, behind all that stood finished before
    pub stored : IsTrue kinds.disks.tells → LeavesStored kinds.disks was.disk before.book is.disk after.book
    pub others : drop duty.workers is.crew ≡ drop duty.workers was.crew

  -- The archive was opened and settled, but there was no memory for so many shelves: it was settled again, and nothing else was touched.
  pub record LacksShelves (asked : Option (List ℕ)) (was is : Objects D G (List (N × C)) O) (status : Status) : Type 0 where
    pub before : Holdings D
    pub opened : OpensSettled kinds.disks (by_checkpoints was.disk asked known) before
    pub closed : ClosesSettled kinds.disks before Memory is.disk status
    pub near : IsTrue before.told → OpensNear kinds.disks is.disk before.book
    pub stored : IsTrue kinds.disks.tells → LeavesStored kinds.disks was.disk before.book is.disk before.book
    pub untouched : is ≡ record was { disk = is.disk }
