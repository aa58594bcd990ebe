-- The line of a capture, by its group, and where its volume's text has come to with it.
use Rattle.std.specs.Prelude.{◌≡◌, ℕ, suc, ◌+◌, List, ◌++◌, length, take, slice_get, Option, Some, None}
use Rattle.std.specs.Ordering.{nat_cmp}
use Rattle.std.specs.declared.cmp.Ordering.{Ordering}
use Rattle.httparse.specs.Grammar.{ResponseHead}
use Rattle.capture.specs.Captures.{first_number}
use Rattle.capture.specs.Message.{IsResponseHeadText}
use Rattle.capture.specs.declared.book.Book.{Book}
use Rattle.capture.specs.declared.book.Volume.{Volume}
use Rattle.surt_key.specs.Key.{key_of}
use Rattle.cdxj_line.specs.Lines.{IsWritable}
use Rattle.cdxj_line.specs.declared.line.Line.{Line}
use Rattle.index_entry.specs.OfLine.{line_at}
use Rattle.warc_scan.specs.declared.group.Group.{Group}
use Rattle.warc_scan.specs.declared.outline.Outline.{Outline}
use Rattle.warc_text.specs.Books.{IsVolumeText, joined}
use Rattle.warc_text.specs.Records.{info_text}
use Rattle.archive_volumes.specs.Entries.{told_facts}
use Rattle.archive_volumes.specs.declared.entry.RecordAt.{RecordAt}
use Rattle.archive_volumes.specs.declared.volume_facts.VolumeFacts.{VolumeFacts}
use Rattle.checkpoint.specs.OfVolume.{IsLineOf}

-- the order of lines' numbers
abbrev pub line_numbers : Line → Line → Ordering
line_numbers a b = nat_cmp a.number b.number

-- whatever the disk tells: the line can be written, and is of the capture with this number in this volume
pub record CanBeIn (volume number : ℕ) (line : Line) : Type 0 where
  pub writable : IsWritable line
  pub of_volume : line.volume ≡ volume
  pub number_is : line.number ≡ number

-- which record is a group's first one, where the group begins there
abbrev pub record_at : Group → ℕ → ℕ → RecordAt
record_at group volume at = record { number = group.number; digest = group.digest; volume = volume; offset = at; len = group.first_len }

-- the same as an outline of the group tells it
abbrev pub record_in : Outline → ℕ → ℕ → RecordAt
record_in outline volume at = record { number = outline.number; digest = outline.digest; volume = volume; offset = at; len = outline.first_len }

-- the line is that of a group's capture, where the group begins there
pub record IsLineAt (group : Group) (volume at : ℕ) (line : Line) : Type 0 where
  pub head : ResponseHead
  pub parsed : IsResponseHeadText group.stored.head head
  pub key : List ℕ
  pub keyed : key_of group.stored.uri ≡ Some key
  pub is : line ≡ line_at (told_facts group.stored head (record_at group volume at) key) group.stored.method

-- it is, or the target has no key
abbrev pub IsLineToldOf : Group → ℕ → ℕ → Option Line → Type 0
IsLineToldOf group volume at (Some line) = IsLineAt group volume at line
IsLineToldOf group volume at None = key_of group.stored.uri ≡ None

-- a volume's text up to the group at this place
abbrev pub front_of : {book : Book} {k : ℕ} {text : List ℕ} → IsVolumeText book k text → ℕ → List ℕ
front_of {book} {k} is place = info_text book.namespace k is.volume.born ++ joined (take place is.groups)

-- the line is that of the capture at this place of a volume, and its group ends there
pub record GoesOnBy {book : Book} {k : ℕ} {text : List ℕ} (is : IsVolumeText book k text) (place : ℕ) (line : Line) (next : ℕ) : Type 0 where
  pub line_is : IsLineOf book (first_number book k + place) line
  pub ends : next ≡ length (front_of is (suc place))

-- this is told of a volume of the book: how many captures stand before its own, and how many it has
pub record IsFactsOf (book : Book) (facts : VolumeFacts) : Type 0 where
  pub of : Volume
  pub placed : slice_get book.volumes facts.volume ≡ Some of
  pub first : facts.first ≡ first_number book facts.volume
  pub count : facts.count ≡ length of.captures
