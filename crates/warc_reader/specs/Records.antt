-- The records of a WARC file, version 1.0 or 1.1 (ISO 28500:2017, sections 4 and 5), one behind the other. The fields of a
-- record stand in any order, and their names are compared with ASCII case ignored.
use Rattle.std.specs.Prelude.{◌≡◌, ◌≢◌, ℕ, ◌+◌, ◌≤◌, true, List, [], ◌∷◌, ◌++◌, map, codes, length, All}
use Rattle.std.specs.List.{flat_map}
use Rattle.std.specs.Str.Parse.{digits_value}
use Rattle.httparse.specs.Ascii.{digit_zero, crlf_bytes}
use Rattle.httparse.specs.Grammar.{Field, IsField, LineEnd, print_section}
use Rattle.capture.specs.Fields.{NamedValue, named_values, values_of}
use Rattle.capture.specs.Framing.{is_number}
use Rattle.capture.specs.declared.limits.TheConstants.{FIELD_LIMIT, HEAD_LIMIT}
use Rattle.http_head.specs.Heads.{named_value}
use Rattle.http_head.specs.declared.head.WireFault.{WireFault}
use Rattle.http_head.specs.declared.head.WireFault.TheVariants as wire_fault
use Rattle.warc_reader.specs.declared.record.Record.{Record}
use Rattle.warc_reader.specs.declared.record.RecordFault.{RecordFault}
use Rattle.warc_reader.specs.declared.record.RecordFault.TheVariants.{NotARecord, Memory}
use Rattle.warc_reader.specs.declared.record.TheConstants.{BLOCK_LIMIT}

-- the names of the fields that the rules read (section 5), in lower case
abbrev pub warc_type : List ℕ
warc_type = codes "warc-type"

abbrev pub content_length : List ℕ
content_length = codes "content-length"

-- ---- a record

-- version line, fields, the empty line behind them, and the block (section 4)
pub record WarcRecord : Type 0 where
  pub minor : ℕ
  pub fields : List Field
  pub end : LineEnd
  pub block : List ℕ

-- `WARC/1.0` or `WARC/1.1`, and CR LF
unfoldable pub version_line : ℕ → List ℕ
version_line minor = codes "WARC/1." ++ (digit_zero + minor) ∷ crlf_bytes

-- the two empty lines behind a block
unfoldable pub record_end : List ℕ
record_end = crlf_bytes ++ crlf_bytes

-- the text behind the version line
abbrev pub print_behind : List Field → LineEnd → List ℕ → List ℕ
print_behind fields end block = print_section fields end ++ block ++ record_end

-- a record's text
abbrev pub print_record : WarcRecord → List ℕ
print_record r = version_line r.minor ++ print_behind r.fields r.end r.block

-- there is one field of that name
abbrev pub HasOne : List ℕ → List NamedValue → Type 0
HasOne name fields = length (values_of name fields) ≡ 1

-- the one field Content-Length is a number, the block's length, within the limit
pub record TellsLength (fields : List NamedValue) (n : ℕ) : Type 0 where
  pub value : List ℕ
  pub one : values_of content_length fields ≡ value ∷ []
  pub number : is_number value ≡ true
  pub told : n ≡ digits_value 10 value
  pub within : n ≤ BLOCK_LIMIT

-- the two fields that each record must have once
pub record TellsBlock (fields : List NamedValue) (n : ℕ) : Type 0 where
  pub typed : HasOne warc_type fields
  pub length_told : TellsLength fields n

-- a section of fields within the limits, and the block of which it tells
pub record IsBehindVersion (fields : List Field) (end : LineEnd) (block : List ℕ) : Type 0 where
  pub valid : All IsField fields
  pub short : length (print_section fields end) ≤ HEAD_LIMIT
  pub few : length fields ≤ FIELD_LIMIT
  pub tells : TellsBlock (named_values fields) (length block)

-- a record of version 1.0 or 1.1
abbrev pub IsRecord : WarcRecord → Type 0
IsRecord r = (r.minor ≤ 1) × IsBehindVersion r.fields r.end r.block

-- a record stands at the front of the text
abbrev pub BeginsWithRecord : List ℕ → Type 0
BeginsWithRecord text = (r : WarcRecord) × (rest : List ℕ) × IsRecord r × (text ≡ print_record r ++ rest)

-- ---- a file

-- the records' texts, joined
abbrev pub print_records : List WarcRecord → List ℕ
print_records records = flat_map print_record records

-- the text is these records, one behind the other
abbrev pub IsFile : List WarcRecord → List ℕ → Type 0
IsFile records text = All IsRecord records × (text ≡ print_records records)

-- behind whole records, at this place, the text goes on and no record stands there
pub record HasNoRecordAt (text : List ℕ) (at : ℕ) : Type 0 where
  pub records : List WarcRecord
  pub rest : List ℕ
  pub before : All IsRecord records
  pub composed : text ≡ print_records records ++ rest
  pub place : at ≡ length (print_records records)
  pub goes_on : rest ≢ []
  pub none : ¬ (BeginsWithRecord rest)

-- ---- a record in parts

-- the text is a record of these fields and this block, and the rest
pub record HoldsRecord (text : List ℕ) (parts : Record) : Type 0 where
  pub form : WarcRecord
  pub valid : IsRecord form
  pub composed : text ≡ print_record form ++ parts.rest.now
  pub fields_are : map named_value parts.fields ≡ named_values form.fields
  pub block_is : parts.block.now ≡ form.block

-- ---- steps of a reader

-- the text begins with a version line, and the rest stands behind it
pub record HasVersion (text rest : List ℕ) : Type 0 where
  pub minor : ℕ
  pub low : minor ≤ 1
  pub composed : text ≡ version_line minor ++ rest

-- the text is a section of these fields, a block of which it tells, and the rest
pub record HoldsBehindVersion (text : List ℕ) (parts : Record) : Type 0 where
  pub fields : List Field
  pub end : LineEnd
  pub valid : IsBehindVersion fields end parts.block.now
  pub composed : text ≡ print_behind fields end parts.block.now ++ parts.rest.now
  pub fields_are : map named_value parts.fields ≡ named_values fields

-- no such text stands at the front
abbrev pub HasNoneBehind : List ℕ → Type 0
HasNoneBehind text =
    (fields : List Field) (end : LineEnd) (block rest : List ℕ) → IsBehindVersion fields end block
    → ¬ (text ≡ print_behind fields end block ++ rest)

-- why a text that is no section gives no record
abbrev pub fault_of_section : WireFault → RecordFault
fault_of_section wire_fault.Memory = Memory
fault_of_section other = NotARecord
