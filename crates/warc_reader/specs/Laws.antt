-- A file is read in one way, and what is made of it can be stored.
use Rattle.std.specs.Prelude.{◌≡◌, ℕ, ◌+◌, ◌≤◌, List, [], ◌∷◌, ◌++◌, length, Some, None}
use Rattle.capture.specs.WellFormed.{IsWellFormed}
use Rattle.capture.specs.declared.captured.Taken.{Taken}
use Rattle.capture.specs.declared.limits.TheConstants.{HEAD_LIMIT}
use Rattle.time_text.specs.Texts.{InRange}
use Rattle.warc_reader.specs.Files.{FileReading, Gives, HasGiven, IsBetween}
use Rattle.warc_reader.specs.Imports.{IsImport, IsOutcome}
use Rattle.warc_reader.specs.Records.{HasNoRecordAt, IsFile, IsRecord, WarcRecord, print_record}
use Rattle.warc_reader.specs.Requests.{Placed, placed_from}
use Rattle.warc_reader.specs.declared.import.Outcome.TheVariants as outcome
use Rattle.warc_reader.specs.declared.record.TheConstants.{BLOCK_LIMIT}
use Rattle.warc_reader.specs.declared.import.Outcome.{Outcome}

-- one record stands at the front of a text
abbrev pub RecordsAreOne : Type 0
RecordsAreOne =
    (r s : WarcRecord) (rest other : List ℕ) → IsRecord r → IsRecord s → print_record r ++ rest ≡ print_record s ++ other
    → (r ≡ s) × (rest ≡ other)

-- a file is one list of records
abbrev pub FilesAreOne : Type 0
FilesAreOne = (records others : List WarcRecord) (text : List ℕ) → IsFile records text → IsFile others text → records ≡ others

-- a file of records has no place where none stands
abbrev pub FilesAreNotRefused : Type 0
FilesAreNotRefused = (records : List WarcRecord) (text : List ℕ) (at : ℕ) → IsFile records text → HasNoRecordAt text at → ⊥

-- and any other text has one
abbrev pub RefusalsAreOne : Type 0
RefusalsAreOne = (text : List ℕ) (at other : ℕ) → HasNoRecordAt text at → HasNoRecordAt text other → at ≡ other

-- a file gives one list of outcomes
abbrev pub ImportsAreOne : Type 0
ImportsAreOne = (file : List ℕ) (outcomes others : List Outcome) → IsImport file outcomes → IsImport file others → outcomes ≡ others

-- a capture is well formed, its date has a text, and its parts are no longer than a record allows
pub record CanBeStored (taken : Taken) : Type 0 where
  pub well_formed : IsWellFormed taken
  pub date : InRange taken.date
  pub uri : length taken.uri ≤ HEAD_LIMIT
  pub response : length taken.head + length taken.wire ≤ BLOCK_LIMIT
  pub request : length taken.request ≤ BLOCK_LIMIT

-- so is each capture that is made of a record of a file
abbrev pub CapturesCanBeStored : Type 0
CapturesCanBeStored =
    (file : List ℕ) (records : List WarcRecord) (p : Placed) (taken : Taken) → IsFile records file → IsRecord p.form
    → IsOutcome (placed_from 0 records) p (outcome.Taken taken) → CanBeStored taken

-- ---- outcomes in turn

-- before the first record of a file none was given
abbrev pub FirstsGaveNone : Type 0
FirstsGaveNone = (file : List ℕ) (records : List WarcRecord) → IsFile records file → HasGiven (record { file = file; at = 0 }) []

-- what the next record gives stands behind what was given
abbrev pub NextsGiveOneMore : Type 0
NextsGiveOneMore =
    (old new : FileReading) (outcomes : List Outcome) (o : Outcome) → HasGiven old outcomes
    → ((done rest : List WarcRecord) → IsBetween old done rest → Gives new done rest (Some o)) → HasGiven new (outcomes ++ o ∷ [])

-- where no record is left, what was given is what the records of the file give
abbrev pub LastsGaveAll : Type 0
LastsGaveAll =
    (old new : FileReading) (outcomes : List Outcome) → HasGiven old outcomes
    → ((done rest : List WarcRecord) → IsBetween old done rest → Gives new done rest None) → IsImport old.file outcomes
