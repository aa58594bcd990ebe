-- What an import makes of the records of a file: of each record of type `response` or `revisit` a capture, or a skip with the first
-- reason that applies. Records of other types are passed over.
use Rattle.std.specs.Prelude.{◌≡◌, ◌⊎◌, ℕ, List, [], ◌∷◌, IsTrue, IsFalse, Some}
use Rattle.capture.specs.Fields.{NamedValue}
use Rattle.capture.specs.declared.captured.Taken.{Taken}
use Rattle.warc_reader.specs.Blocks.{Answered, HasNoResponse, IsBlockOf, Parts}
use Rattle.warc_reader.specs.Dates.{IsDateText}
use Rattle.warc_reader.specs.Fields.{date_field, HasTarget, first_of, has_http_type, is_counted, is_segmented, is_truncated, kind_of}
use Rattle.warc_reader.specs.Records.{IsFile, WarcRecord}
use Rattle.warc_reader.specs.Requests.{Asked, IsAskedFor, Placed, fields_of, placed_from}
use Rattle.warc_reader.specs.declared.import.Outcome.{Outcome}
use Rattle.warc_reader.specs.declared.import.Outcome.TheVariants as outcome
use Rattle.warc_reader.specs.declared.import.Reason.{Reason}
use Rattle.warc_reader.specs.declared.import.Reason.TheVariants.{Revisit, ContentType, Target, Date, Message}
use Rattle.warc_reader.specs.declared.kind.Kind.TheVariants as kind

-- the record has a date, which is this one
abbrev pub IsDated : List NamedValue → ℕ → Type 0
IsDated fields date = (text : List ℕ) × (first_of date_field fields ≡ Some text) × IsDateText text date

-- a response record that holds a message of HTTP for this accepted target
pub record IsResponseRecord (fields : List NamedValue) (uri : List ℕ) : Type 0 where
  pub typed : kind_of fields ≡ kind.Response
  pub http : IsTrue (has_http_type fields)
  pub target : HasTarget fields uri

-- what the block of a record with these fields answers
abbrev pub answered_in : List NamedValue → List ℕ → List ℕ → Answered
answered_in fields block method = record { method = method; truncated = is_truncated fields; block = block }

-- the request of a capture
abbrev pub asked_of : Taken → Asked
asked_of taken = record { method = taken.method; text = taken.request }

-- the response of a capture
abbrev pub parts_of : Taken → Parts
parts_of taken = record { head = taken.head; wire = taken.wire; cut = taken.cut }

-- a record of these fields and this block gives this capture, where all are the file's records
pub record IsTaken (all : List Placed) (fields : List NamedValue) (block : List ℕ) (taken : Taken) : Type 0 where
  pub response : IsResponseRecord fields taken.uri
  pub dated : IsDated fields taken.date
  pub asked : IsAskedFor all fields taken.uri (asked_of taken)
  pub whole : IsFalse (is_segmented fields)
  pub answers : IsBlockOf (answered_in fields block taken.method) (parts_of taken)

-- a response record with an accepted target and a date, whose block is a segment, or no response to the method that was asked
pub record HasNoMessage (all : List Placed) (fields : List NamedValue) (block : List ℕ) : Type 0 where
  pub uri : List ℕ
  pub response : IsResponseRecord fields uri
  pub date : ℕ
  pub dated : IsDated fields date
  pub asked : Asked
  pub is_asked : IsAskedFor all fields uri asked
  pub none : IsTrue (is_segmented fields) ⊎ HasNoResponse (answered_in fields block asked.method)

-- the first reason for which the record is skipped
abbrev pub IsSkipped : List Placed → List NamedValue → List ℕ → Reason → Type 0
IsSkipped all fields block Revisit = kind_of fields ≡ kind.Revisit
IsSkipped all fields block ContentType = (kind_of fields ≡ kind.Response) × IsFalse (has_http_type fields)
IsSkipped all fields block Target =
    (kind_of fields ≡ kind.Response) × IsTrue (has_http_type fields) × ((uri : List ℕ) → ¬ (HasTarget fields uri))
IsSkipped all fields block Date =
    (uri : List ℕ) × IsResponseRecord fields uri × ((date : ℕ) → ¬ (IsDated fields date))
IsSkipped all fields block Message = HasNoMessage all fields block

-- what the record gives
abbrev pub IsOutcome : List Placed → Placed → Outcome → Type 0
IsOutcome all p (outcome.Taken taken) = IsTaken all (fields_of p) p.form.block taken
IsOutcome all p (outcome.Skipped skipped) = (skipped.at ≡ p.at) × IsSkipped all (fields_of p) p.form.block skipped.reason
IsOutcome all p outcome.PassedOver = IsFalse (is_counted (kind_of (fields_of p)))

-- ---- a whole file

-- what these records give, in order
abbrev pub AreOutcomes : List Placed → List Placed → List Outcome → Type 0
AreOutcomes all [] outcomes = outcomes ≡ []
AreOutcomes all (p ∷ others) outcomes =
    (first : Outcome) × (rest : List Outcome) × (outcomes ≡ first ∷ rest) × IsOutcome all p first × AreOutcomes all others rest

-- what the records of a file give, in order
pub record IsImport (file : List ℕ) (outcomes : List Outcome) : Type 0 where
  pub records : List WarcRecord
  pub is_file : IsFile records file
  pub give : AreOutcomes (placed_from 0 records) (placed_from 0 records) outcomes
