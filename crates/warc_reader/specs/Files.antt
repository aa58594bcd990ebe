-- What a reader of captures knows of its file.
use Rattle.std.specs.Prelude.{◌≡◌, ℕ, ◌++◌, List, [], ◌∷◌, length, All, Option, Some, None, ⊤}
use Rattle.capture.specs.Fields.{NamedValue}
use Rattle.warc_reader.specs.Imports.{AreOutcomes, IsOutcome, IsSkipped}
use Rattle.warc_reader.specs.Records.{HasNoRecordAt, IsFile, IsRecord, WarcRecord, print_records}
use Rattle.warc_reader.specs.Requests.{Asked, Placed, placed_from}
use Rattle.warc_reader.specs.Tables.{HoldsRequests}
use Rattle.warc_reader.specs.declared.asking.Ask.{Ask}
use Rattle.warc_reader.specs.declared.import.ImportFault.{ImportFault}
use Rattle.warc_reader.specs.declared.import.ImportFault.TheVariants.{NotARecord, Memory}
use Rattle.warc_reader.specs.declared.import.Outcome.{Outcome}
use Rattle.warc_reader.specs.declared.outcomes.NotTaken.{NotTaken}
use Rattle.warc_reader.specs.declared.outcomes.NotTaken.TheVariants.{Because, Memory as NoMemory}
use Rattle.warc_reader.specs.declared.record.RecordFault.{RecordFault}
use Rattle.warc_reader.specs.declared.record.RecordFault.TheVariants as record_fault
use Rattle.warc_reader.specs.declared.requests.Requests.{Requests}

-- why a file isn't imported
abbrev pub IsFileFault : List ℕ → ImportFault → Type 0
IsFileFault file (NotARecord at) = HasNoRecordAt file at
IsFileFault file Memory = ⊤

-- how far a file was read
pub record FileReading : Type 0 where
  pub file : List ℕ
  pub at : ℕ

-- these records stand before the place, and those behind it
pub record IsBetween (reading : FileReading) (done rest : List WarcRecord) : Type 0 where
  pub before : All IsRecord done
  pub behind : All IsRecord rest
  pub composed : reading.file ≡ print_records done ++ print_records rest
  pub place : reading.at ≡ length (print_records done)

-- the next record gives this, and a reader that stood before it stands behind it
pub record GivesNext (new : FileReading) (done : List WarcRecord) (r : WarcRecord) (more : List WarcRecord) (outcome : Outcome) : Type 0 where
  pub gives : IsOutcome (placed_from 0 (done ++ r ∷ more)) (record { at = length (print_records done); form = r }) outcome
  pub between : IsBetween new (done ++ r ∷ []) more

-- what a reader answers that stood between these records
abbrev pub Gives : FileReading → List WarcRecord → List WarcRecord → Option Outcome → Type 0
Gives new done [] None = IsBetween new done []
Gives new done (r ∷ more) (Some outcome) = GivesNext new done r more outcome
Gives new done rest found = ⊥

-- these outcomes are what the records before the place give, in order
pub record HasGiven (reading : FileReading) (outcomes : List Outcome) : Type 0 where
  pub done : List WarcRecord
  pub rest : List WarcRecord
  pub between : IsBetween reading done rest
  pub give : AreOutcomes (placed_from 0 (done ++ rest)) (placed_from 0 done) outcomes

-- ---- steps of a reader

-- the tables have the request records of the file
pub record Knows (file : List ℕ) (requests : Requests) : Type 0 where
  pub records : List WarcRecord
  pub is_file : IsFile records file
  pub holds : HoldsRequests requests (placed_from 0 records)

-- the file is whole records up to this rest, and the tables have the request records among them
pub record IsReadTo (file : List ℕ) (requests : Requests) (rest : List ℕ) : Type 0 where
  pub done : List WarcRecord
  pub before : All IsRecord done
  pub composed : file ≡ print_records done ++ rest
  pub holds : HoldsRequests requests (placed_from 0 done)

-- a reader stands between records of its file, and the tables have the request records among all
pub record Reads (file : List ℕ) (requests : Requests) (at : ℕ) : Type 0 where
  pub done : List WarcRecord
  pub rest : List WarcRecord
  pub between : IsBetween (record { file = file; at = at }) done rest
  pub holds : HoldsRequests requests (placed_from 0 (done ++ rest))

-- why no record was read at this place
abbrev pub import_fault : ℕ → RecordFault → ImportFault
import_fault at record_fault.NotARecord = NotARecord at
import_fault at record_fault.Memory = Memory

-- why a response record gives no capture
abbrev pub HasNotTaken : List Placed → List NamedValue → List ℕ → NotTaken → Type 0
HasNotTaken all fields block (Because reason) = IsSkipped all fields block reason
HasNotTaken all fields block NoMemory = ⊤

-- a request as it was found or made
abbrev pub asked_with : Ask → Asked
asked_with ask = record { method = ask.method; text = ask.text }
