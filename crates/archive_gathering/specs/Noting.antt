-- What is noted of a group that was found.
use Rattle.std.specs.Prelude.{◌≡◌, ◌⊎◌, ℕ, ◌+◌, ◌-◌, ◌^◌, ◌<◌, ◌≤◌, List, [], length, slice_index_or, Option, Some, None}
use Rattle.httparse.specs.Grammar.{ResponseHead}
use Rattle.capture.specs.Captures.{captures}
use Rattle.capture.specs.declared.book.Book.{Book}
use Rattle.capture.specs.declared.captured.Kept.TheVariants.{Wire, Same}
use Rattle.capture.specs.declared.captured.Stored.{Stored}
use Rattle.index_entry.specs.Facts.{Facts}
use Rattle.warc_journal.specs.declared.place.Place.{Place}
use Rattle.warc_scan.specs.Groups.{IsGroup}
use Rattle.warc_scan.specs.declared.group.Group.{Group}
use Rattle.archive_volumes.specs.Entries.{EntersAs}
use Rattle.archive_gathering.specs.Measuring.{IsLengthOf}
use Rattle.archive_gathering.specs.declared.noting.Noted.{Noted}
use Rattle.archive_volumes.specs.declared.entry.RecordAt.{RecordAt}

-- it is the group with some number of some archive
pub record IsSomeGroup (group : Group) : Type 0 where
  pub namespace : List ℕ
  pub number : ℕ
  pub text : List ℕ
  pub is : IsGroup namespace number text group

-- the next group of a book stands behind the last of its texts
pub record IsGroupAt (book : Book) (texts : List (List ℕ)) (text : List ℕ) (place : Place) (group : Group) : Type 0 where
  pub some : 0 < length texts
  pub is : IsGroup book.namespace (length (captures book)) text group
  pub volume : place.volume + 1 ≡ length texts
  pub at : place.at ≡ length (slice_index_or texts (length texts - 1) [])
  pub len : place.len ≡ length text

-- with the group the number of captures, the length of a request and that of a volume's text are within their bounds
pub record IsWithin (number : ℕ) (place : Place) (group : Group) : Type 0 where
  pub few : number + 1 < 2 ^ 32 - 1
  pub request : length group.stored.request < 2 ^ 34
  pub ends : place.at + place.len < 2 ^ 62

-- or one of them isn't
abbrev pub IsPast : ℕ → Place → Group → Type 0
IsPast number place group =
    (2 ^ 32 - 1 ≤ number + 1) ⊎ (2 ^ 34 ≤ length group.stored.request) ⊎ (2 ^ 62 ≤ place.at + place.len)

-- the capture, which refers to this one, if to any
abbrev pub referring : Stored → Option ℕ → Stored
referring stored None = stored
referring stored (Some first) = record stored { kept = Same first }

-- where the record of a group's capture stands
abbrev pub record_at : Place → Group → RecordAt
record_at place group = record {
  number = group.number;
  digest = group.digest;
  volume = place.volume;
  offset = place.at;
  len = group.first_len;
}

-- what is noted of a capture whose record and head stand there, with a payload of this length, and this entry
abbrev pub noted_by : Stored → RecordAt → ℕ → ℕ → Option Facts → Noted
noted_by stored at head_at len entry = record {
  stored = stored;
  digest = at.digest;
  volume = at.volume;
  at = at.offset;
  head_at = head_at;
  length = len;
  entry = entry;
}

-- what is noted of a group whose capture has this head
pub record IsNoted (head : ResponseHead) (place : Place) (group : Group) (first : Option ℕ) (noted : Noted) : Type 0 where
  pub stored : noted.stored ≡ referring group.stored first
  pub digest : noted.digest ≡ group.digest
  pub volume : noted.volume ≡ place.volume
  pub at : noted.at ≡ place.at
  pub head_at : noted.head_at ≡ place.at + group.head_at
  pub length : (wire : List ℕ) → noted.stored.kept ≡ Wire wire → IsLengthOf noted.stored.method noted.stored.head wire noted.length
  pub fits : noted.length < 2 ^ 64
  pub entry : EntersAs noted.stored head (record_at place group) noted.entry
