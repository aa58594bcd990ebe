-- What the command `import` leaves: the captures of a WARC file of another tool, stored in their order.
use Rattle.std.specs.Prelude.{◌≡◌, ◌⊎◌, ℕ, Bool, true, List, [], ◌∷◌, IsTrue, Option, Some, None, Result, Ok, Err, ⊤}
use Rattle.std.specs.List.{flat_map}
use Rattle.archive_core.specs.Holdings.{Holdings, contents_of}
use Rattle.archive_reopening.specs.Known.{by_checkpoints}
use Rattle.archive_reopening.specs.Standing.{LeavesStored}
use Rattle.archive_core.specs.Told.{told_on}
use Rattle.archive_volumes.specs.Volumes.{OpensNear}
use Rattle.archive_shelf.specs.Contents.{Contents}
use Rattle.archive_shelf.specs.Openings.{HasIds, ImageStandsFor, SameBook}
use Rattle.archive_shelf.specs.declared.fault.StoreFault.{StoreFault}
use Rattle.archive_shelf.specs.declared.fault.StoreFault.TheVariants as stores
use Rattle.capture.specs.declared.book.Book.{Book}
use Rattle.capture.specs.declared.captured.Taken.{Taken}
use Rattle.checkpoint.specs.OfVolume.{HasCheckpointsOf}
use Rattle.disk_model.specs.Crash.{Leaves}
use Rattle.command.specs.Gates.{gate_told}
use Rattle.command.specs.Objects.{Objects}
use Rattle.disk_model.specs.Image.{Image}
use Rattle.disk_model.specs.declared.disk.Disk.{Ghosts as Disks}
use Rattle.outside.specs.declared.gate.Gate.{Ghosts as Gates}
use Rattle.outside.specs.declared.sink.Sink.{Ghosts as Sinks}
use Rattle.importing.specs.Inputs.{Gives}
use Rattle.importing.specs.Keeping.{HaveIds, Intake, Keeps, OpensAtLast, OpensBehind}
use Rattle.command.specs.Opening.{IsOpened}
use Rattle.command.specs.Printing.{LacksMemory, Printed, Prints, printed_as}
use Rattle.importing.specs.Texts.{damaged_input, import_text, too_long}
use Rattle.importing.specs.declared.input.InputFault.{InputFault}
use Rattle.importing.specs.declared.input.InputFault.TheVariants as input_fault
use Rattle.command.specs.declared.status.Status.{Status}
use Rattle.command.specs.declared.status.Status.TheVariants.{Done, Archive, Outside}
use Rattle.warc_reader.specs.Files.{HasGiven}
use Rattle.warc_reader.specs.Imports.{IsImport}
use Rattle.warc_reader.specs.Records.{HasNoRecordAt}
use Rattle.warc_reader.specs.declared.import.Outcome.{Outcome}
use Rattle.warc_reader.specs.declared.import.Outcome.TheVariants as outcome

-- the capture of an outcome, if it is one
abbrev pub taken_in : Outcome → List Taken
taken_in (outcome.Taken taken) = taken ∷ []
taken_in (outcome.Skipped skipped) = []
taken_in outcome.PassedOver = []

-- the captures among outcomes, in order
abbrev pub takens_in : List Outcome → List Taken
takens_in outcomes = flat_map taken_in outcomes

-- the status behind an import in which a capture was refused, or none
abbrev pub status_after : Option StoreFault → Status
status_after None = Done
status_after (Some fault) = Archive

-- why a capture was refused can be told, if one was: it isn't want of memory
abbrev pub IsTellable : Option StoreFault → Type 0
IsTellable None = ⊤
IsTellable (Some (stores.Full count limit)) = ⊤
IsTellable (Some stores.DiskFault) = ⊤
IsTellable (Some (stores.Damaged number kept found)) = ⊤
IsTellable (Some stores.Memory) = ⊥

-- a read of the file breaks off for want of memory, and nothing was printed
pub record BreaksForMemory {O : Type 0} (sinks : Sinks O) (file : List ℕ) (takens : List Taken) (printed : Printed O) : Type 0 where
  pub outcomes : List Outcome
  pub begun : (outcomes ≡ []) ⊎ ((at : ℕ) × HasGiven (record { file = file; at = at }) outcomes)
  pub takens_are : takens ≡ takens_in outcomes
  pub lacks : LacksMemory sinks printed.was printed.is printed.status

-- at this place the file goes on with no record: nothing is taken of it
pub record IsNoFile {O : Type 0} (sinks : Sinks O) (file : List ℕ) (takens : List Taken) (printed : Printed O) : Type 0 where
  pub at : ℕ
  pub none : HasNoRecordAt file at
  pub nothing : takens ≡ []
  pub told : Prints sinks Archive (damaged_input at) printed.was printed.is printed.status

-- the captures are those that the records of the file give, and what was skipped, stored and refused was printed
pub record WasRead {O : Type 0} (sinks : Sinks O) (file : List ℕ) (intake : Intake) (printed : Printed O) : Type 0 where
  pub outcomes : List Outcome
  pub import : IsImport file outcomes
  pub takens_are : intake.takens ≡ takens_in outcomes
  pub tellable : IsTellable intake.refused
  pub told : Prints sinks (status_after intake.refused) (import_text outcomes intake.stored intake.refused) printed.was printed.is printed.status

module _ {O : Type 0} (sinks : Sinks O) (intake : Intake) (printed : Printed O) where
  -- what was told of a file
  abbrev pub TellsFile : List ℕ → Type 0
  TellsFile file = WasRead sinks file intake printed ⊎ IsNoFile sinks file intake.takens printed ⊎ BreaksForMemory sinks file intake.takens printed

  -- what was told by what came of the input: where there is none, nothing was taken
  abbrev pub Tells : Result (List ℕ) InputFault → Type 0
  Tells (Ok file) = TellsFile file
  Tells (Err input_fault.TooLong) = (intake.takens ≡ []) × Prints sinks Archive too_long printed.was printed.is printed.status
  Tells (Err input_fault.Failed) = (intake.takens ≡ []) × (printed.status ≡ Outside) × (printed.is ≡ printed.was)
  Tells (Err input_fault.Memory) = (intake.takens ≡ []) × LacksMemory sinks printed.was printed.is printed.status

module _ {D G L P O : Type 0} (disks : Disks D) (gates : Gates G L P) (sinks : Sinks O) (clients_tell : Bool) where
  -- The archive was opened by its checkpoints, the gate's first connection was read to its end and hung up, and the captures of what it gave were
  -- stored in their order, up to a refusal, and that was told. No member of a crew works.
  pub record Imports (known : Option Book) (asked : Option (List ℕ)) (was is : Objects D G ⊤ O) (status : Status) : Type 0 where
    pub before : Holdings D
    pub after : Contents
    pub opened : IsOpened disks (by_checkpoints was.disk asked known) before
    pub input : Result (List ℕ) InputFault
    pub came : IsTrue clients_tell → Gives (gate_told gates was.gate) (gate_told gates is.gate) input
    pub gate_failed : (input ≡ Err input_fault.Failed) ⊎ (gates.faults is.gate ≡ gates.faults was.gate)
    pub intake : Intake
    pub keeps : Keeps true intake (told_on disks was.disk (contents_of before)) (told_on disks is.disk after)
    pub told : Tells sinks intake (printed_as was.out is.out status) input
    pub near : IsTrue before.told → OpensNear disks is.disk after.seen
    -- whatever is told of the book, each capture that was stored stands with just its records, from its store on, behind all that stood finished before
    pub stored : IsTrue disks.tells → LeavesStored disks was.disk before.book is.disk after.seen
    -- where the book is told, the finished checkpoints of each image that a crash may leave are those of its sealed volumes
    pub right : IsTrue before.told → Leaves (disks.images is.disk) (λ image. HasCheckpointsOf image after.seen)
    -- where the book is told and ids differ, each image that a crash may leave, and so what a read gives, stands for just what was stored
    pub left : IsTrue before.told → HasIds before.book → HaveIds keeps.steps → HasIds keeps.reached.seen
        → (image : Image) (x : Book) → disks.images is.disk image → ImageStandsFor image x
        → OpensAtLast intake.refused keeps.rest keeps.reached after (OpensBehind keeps.steps keeps.reached (λ b. SameBook b before.book)) x
