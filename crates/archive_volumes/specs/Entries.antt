-- The entry of a capture, by what is told of it and where its record stands, and beside what is kept of it.
use Rattle.std.specs.Prelude.{◌≡◌, ◌≢◌, ℕ, Bool, List, codes, slice_get, Contains, Option, Some, None}
use Rattle.httparse.specs.Grammar.{ResponseHead, status_code}
use Rattle.capture.specs.Fields.{named_values}
use Rattle.capture.specs.declared.captured.Stored.{Stored}
use Rattle.index_entry.specs.Facts.{Facts}
use Rattle.index_entry.specs.OfBook.{mime_by}
use Rattle.index_entry.specs.Order.{with_entry}
use Rattle.surt_key.specs.Key.{key_of}
use Rattle.archive_volumes.specs.Spots.{form_of, is_same_form}
use Rattle.archive_volumes.specs.declared.entry.RecordAt.{RecordAt}
use Rattle.archive_volumes.specs.declared.spot.Spot.{Spot}

-- this is told of the capture: its method, target and date, and whether another capture keeps its payload
pub record IsAskedOf (stored : Stored) (method uri : List ℕ) (date : ℕ) (revisit : Bool) : Type 0 where
  pub method_is : stored.method ≡ method
  pub uri_is : stored.uri ≡ uri
  pub date_is : stored.date ≡ date
  pub revisit_is : revisit ≡ is_same_form (form_of stored.kept)

-- what an entry tells of a capture with this key and a head of these parts, whose record stands there
abbrev pub told_facts : Stored → ResponseHead → RecordAt → List ℕ → Facts
told_facts stored head at key = record {
  key = key;
  date = stored.date;
  number = at.number;
  uri = stored.uri;
  mime = mime_by stored.kept (named_values head.fields);
  status = status_code head;
  digest = at.digest;
  volume = at.volume;
  offset = at.offset;
  length = at.len;
}

-- an entry tells just that, or the target has no key
abbrev pub IsToldAs : Stored → ResponseHead → RecordAt → Option Facts → Type 0
IsToldAs stored head at (Some entry) = (key : List ℕ) × (key_of stored.uri ≡ Some key) × (entry ≡ told_facts stored head at key)
IsToldAs stored head at None = key_of stored.uri ≡ None

-- the entry tells of the capture, whose record stands there
pub record IsEntryAt (stored : Stored) (head : ResponseHead) (at : RecordAt) (entry : Facts) : Type 0 where
  pub asked : stored.method ≡ codes "GET"
  pub told : status_code head ≢ 304
  pub keyed : key_of stored.uri ≡ Some entry.key
  pub date : entry.date ≡ stored.date
  pub number : entry.number ≡ at.number
  pub uri : entry.uri ≡ stored.uri
  pub mime : entry.mime ≡ mime_by stored.kept (named_values head.fields)
  pub status : entry.status ≡ status_code head
  pub digest : entry.digest ≡ at.digest
  pub volume : entry.volume ≡ at.volume
  pub offset : entry.offset ≡ at.offset
  pub len : entry.length ≡ at.len

-- the capture isn't found by date, or has no key
pub record HasNoEntry (stored : Stored) (head : ResponseHead) : Type 0 where
  pub none : stored.method ≡ codes "GET" → status_code head ≢ 304 → key_of stored.uri ≡ None

-- its entry, or none
abbrev pub EntersAs : Stored → ResponseHead → RecordAt → Option Facts → Type 0
EntersAs stored head at (Some entry) = IsEntryAt stored head at entry
EntersAs stored head at None = HasNoEntry stored head

-- the index with the entry, if there is one
abbrev pub entered : Option Facts → List Facts → List Facts
entered None index = index
entered (Some entry) index = with_entry entry index

-- ---- entries and what is kept

-- an entry tells the target, the date and the digest that are kept of its capture
pub record IsNamedAs (spot : Spot) (entry : Facts) : Type 0 where
  pub uri : entry.uri ≡ spot.uri
  pub date : entry.date ≡ spot.date
  pub digest : entry.digest ≡ spot.digest

-- so does each of these entries
abbrev pub AreNamed : List Spot → List Facts → Type 0
AreNamed spots entries = (entry : Facts) → Contains entries entry → (spot : Spot) → slice_get spots entry.number ≡ Some spot → IsNamedAs spot entry
