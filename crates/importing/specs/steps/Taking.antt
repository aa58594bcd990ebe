-- What an import has made of the records up to a place of its file.
use Rattle.std.specs.Prelude.{◌≡◌, ℕ, Bool, true, false, List, length, Option, Result, Ok, Err, ⊤}
use Rattle.std.specs.List.{flat_map}
use Rattle.archive_shelf.specs.Told.{Told}
use Rattle.archive_shelf.specs.declared.fault.StoreFault.{StoreFault}
use Rattle.capture.specs.declared.memory.Memory.{Memory}
use Rattle.importing.specs.Imports.{IsTellable, takens_in}
use Rattle.importing.specs.Keeping.{Keeps, intake_of}
use Rattle.importing.specs.Texts.{skip_line, skips_in}
use Rattle.importing.specs.declared.tally.Tally.{Tally}
use Rattle.warc_reader.specs.Files.{FileReading, HasGiven}
use Rattle.warc_reader.specs.Imports.{IsImport}
use Rattle.warc_reader.specs.declared.import.Outcome.{Outcome}
use Rattle.warc_reader.specs.declared.import.Outcome.TheVariants as outcome
use Rattle.warc_text.specs.Fits.{Fits}

-- a reader stands behind records of its file that gave something
abbrev pub Stands : FileReading → Type 0
Stands reading = (outcomes : List Outcome) × HasGiven reading outcomes

-- the capture of an outcome, if it is one, may be stored
abbrev pub FitsIn : Outcome → Type 0
FitsIn (outcome.Taken taken) = Fits taken
FitsIn (outcome.Skipped skipped) = ⊤
FitsIn outcome.PassedOver = ⊤

-- the tally has the skips of these outcomes
pub record HasSkips (tally : Tally) (outcomes : List Outcome) : Type 0 where
  pub lines_are : tally.lines.items ≡ flat_map skip_line (skips_in outcomes)
  pub count_is : tally.skipped ≡ length (skips_in outcomes)

-- The captures of the records up to the place were stored, up to a refusal, and what was skipped stands in the tally.
pub record HasTaken (alone : Bool) (reading : FileReading) (tally : Tally) (was is : Told) : Type 0 where
  pub outcomes : List Outcome
  pub given : HasGiven reading outcomes
  pub skips : HasSkips tally outcomes
  pub tellable : IsTellable tally.refused
  pub keeps : Keeps alone (intake_of (takens_in outcomes) tally.stored tally.refused) was is

-- and so those of all records of the file
pub record HasTakenAll (alone : Bool) (file : List ℕ) (tally : Tally) (was is : Told) : Type 0 where
  pub outcomes : List Outcome
  pub import : IsImport file outcomes
  pub skips : HasSkips tally outcomes
  pub tellable : IsTellable tally.refused
  pub keeps : Keeps alone (intake_of (takens_in outcomes) tally.stored tally.refused) was is

-- the captures of the records up to some place were stored, up to a refusal
pub record HasBegun (alone : Bool) (file : List ℕ) (was is : Told) : Type 0 where
  pub outcomes : List Outcome
  pub at : ℕ
  pub given : HasGiven (record { file = file; at = at }) outcomes
  pub stored : ℕ
  pub refused : Option StoreFault
  pub keeps : Keeps alone (intake_of (takens_in outcomes) stored refused) was is

-- a record more was taken, or there was none, or no memory
abbrev pub TakesNext : Bool → FileReading → Tally → Told → Told → Result Bool Memory → Type 0
TakesNext alone reading tally was is (Ok true) = HasTaken alone reading tally was is
TakesNext alone reading tally was is (Ok false) = HasTakenAll alone reading.file tally was is
TakesNext alone reading tally was is (Err memory) = HasBegun alone reading.file was is

-- all records were taken, or there was no memory
abbrev pub TakesAll : Bool → List ℕ → Tally → Told → Told → Result ⊤ Memory → Type 0
TakesAll alone file tally was is (Ok done) = HasTakenAll alone file tally was is
TakesAll alone file tally was is (Err memory) = HasBegun alone file was is
