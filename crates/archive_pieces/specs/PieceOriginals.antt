-- The capture to which the group of a piece refers, of those that are kept.
use Rattle.std.specs.Prelude.{◌≡◌, ◌≢◌, ℕ, ◌^◌, ◌<◌, Bool, true, false, IfSome, IsTrue, List, length, get_or, nat_eq, Option, Some, None, Result, Ok, Err, ⊤}
use Rattle.capture.specs.Captures.{KeepsPayload, captures}
use Rattle.capture.specs.declared.book.Book.{Book}
use Rattle.capture.specs.declared.captured.Stored.{Stored}
use Rattle.capture.specs.declared.framing.Framing.{Framing}
use Rattle.capture.specs.declared.framing.Framing.TheVariants as framings
use Rattle.warc_scan.specs.Groups.{IsGroup}
use Rattle.warc_scan.specs.declared.group.Group.{Group}
use Rattle.warc_scan.specs.declared.group.Revisited.{Revisited}
use Rattle.warc_scan.specs.declared.outline.Outline.{Outline}
use Rattle.archive_shelf.specs.Answers.{IsDamaged}
use Rattle.archive_shelf.specs.Comparing.{HasDigestOf, HasRequest, KeepsWire}
use Rattle.archive_gathering.specs.Revisits.{IsOriginalOf, RefersToNone}
use Rattle.archive_reading.specs.Decoding.{TellsFraming}
use Rattle.archive_reading.specs.KeptGroups.{IsTold}
use Rattle.archive_reading.specs.Rereading.{TellsOf}
use Rattle.archive_reading.specs.declared.kept_group.KeptGroup.{KeptGroup}
use Rattle.archive_reading.specs.declared.kept_group.KeptGroup.TheVariants as kept_groups
use Rattle.archive_pieces.specs.declared.fault.PieceFault.{PieceFault}
use Rattle.archive_pieces.specs.declared.fault.PieceFault.TheVariants as pieces

-- ---- one capture

-- it keeps its whole wire, and its payload is so long
pub record KeepsSoLong (book : Book) (number len : ℕ) : Type 0 where
  pub stored : Stored
  pub wire : List ℕ
  pub payload : List ℕ
  pub keeps : KeepsPayload book number stored wire payload
  pub long : len ≡ length payload
  pub fits : len < 2 ^ 64

-- what asking it for the length of its payload answers, if it keeps its whole wire
abbrev pub AsksLength : Bool → Book → ℕ → Result (Option ℕ) PieceFault → Type 0
AsksLength told book number (Ok (Some len)) = IsTrue told → KeepsSoLong book number len
AsksLength told book number (Ok None) = IsTrue told → KeepsWire book number → ⊥
AsksLength told book number (Err (pieces.Full count limit)) = ⊥
AsksLength told book number (Err pieces.NotAPiece) = ⊥
AsksLength told book number (Err pieces.DiskFault) = ⊤
AsksLength told book number (Err (pieces.Damaged at kept found)) = (at ≡ number) × IsDamaged told kept found
AsksLength told book number (Err pieces.Memory) = ⊤

-- the length that a group tells of its payload, where it refers to no record and wasn't cut
abbrev pub whole_len_by : Option Revisited → Bool → ℕ → Option ℕ
whole_len_by (Some same) cut len = None
whole_len_by None true len = None
whole_len_by None false len = Some len

-- a group with this number tells this digest, and that its own payload is so long
pub record TellsSoLong (namespace : List ℕ) (number : ℕ) (digest : List ℕ) (len : ℕ) : Type 0 where
  pub bytes : List ℕ
  pub outline : Outline
  pub is : IsTold namespace number bytes outline
  pub digest_is : outline.digest ≡ digest
  pub long : whole_len_by outline.same outline.cut outline.payload_len ≡ Some len

-- what was read of the group, where this digest is kept
pub record IsLengthBy (kept digest : List ℕ) (same : Option Revisited) (cut : Bool) (len : ℕ) (found : Option ℕ) : Type 0 where
  pub digest_is : digest ≡ kept
  pub found_is : found ≡ whole_len_by same cut len
  pub fits : len < 2 ^ 64

abbrev pub IsLengthOf : ℕ → List ℕ → List ℕ → Option Revisited → Bool → ℕ → Result (Option ℕ) PieceFault → Type 0
IsLengthOf number kept digest same cut len (Ok found) = IsLengthBy kept digest same cut len found
IsLengthOf number kept digest same cut len (Err fault) = (fault ≡ pieces.Damaged number kept (Some digest)) × (digest ≢ kept)

abbrev pub IsLengthIn : ℕ → List ℕ → KeptGroup → Result (Option ℕ) PieceFault → Type 0
IsLengthIn number kept (kept_groups.Right bytes outline) result =
    IsLengthOf number kept outline.digest outline.same outline.cut outline.payload_len result
IsLengthIn number kept kept_groups.Damaged (Ok found) = ⊥
IsLengthIn number kept kept_groups.Damaged (Err fault) = fault ≡ pieces.Damaged number kept None

-- ---- whether it is the one

-- a payload of this length agrees with the framing that a head tells
abbrev pub agrees_by : Option Framing → ℕ → Bool
agrees_by None len = false
agrees_by (Some framings.Empty) len = true
agrees_by (Some (framings.Length n)) len = nat_eq n len
agrees_by (Some framings.Chunked) len = true
agrees_by (Some framings.ToEnd) len = true

pub record Agrees (method head : List ℕ) (len : ℕ) (does : Bool) : Type 0 where
  pub framing : Option Framing
  pub tells : TellsFraming method head framing
  pub is : does ≡ agrees_by framing len

-- the group that is to be the next one of the book
pub record IsNextGroup (book : Book) (group : Group) : Type 0 where
  pub text : List ℕ
  pub is : IsGroup book.namespace (length (captures book)) text group

-- Whatever the disk tells, a group names this capture of the book: its record tells the id, the target and the date of that. A group of the capture's number,
-- which was read, tells the same digest as this one, and a length of its payload that agrees with the head of this one.
pub record IsNamedBy (book : Book) (group : Group) (number : ℕ) : Type 0 where
  pub tells : IfSome group.same (TellsOf book number)
  pub len : ℕ
  pub read : TellsSoLong book.namespace number group.digest len
  pub agrees : Agrees group.stored.method group.stored.head len true

abbrev pub AsksOriginal : Bool → Book → Group → ℕ → Result Bool PieceFault → Type 0
AsksOriginal told book group number (Ok true) =
    IsNamedBy book group number × (IsTrue told → IsOriginalOf book (length (captures book)) group number)
AsksOriginal told book group number (Ok false) = IsTrue told → IsOriginalOf book (length (captures book)) group number → ⊥
AsksOriginal told book group number (Err (pieces.Full count limit)) = ⊥
AsksOriginal told book group number (Err pieces.NotAPiece) = ⊥
AsksOriginal told book group number (Err pieces.DiskFault) = ⊤
AsksOriginal told book group number (Err (pieces.Damaged at kept found)) = (at ≡ number) × IsDamaged told kept found
AsksOriginal told book group number (Err pieces.Memory) = ⊤

-- ---- of all

-- none of so many candidates is the one
abbrev pub NoneIs : Book → Group → List ℕ → ℕ → Type 0
NoneIs book group candidates many = (k : ℕ) → k < many → IsOriginalOf book (length (captures book)) group (get_or candidates k 0) → ⊥

-- Whatever the disk tells, the group names it; it keeps its whole wire, and has the digest that the group tells, where the book has its request. Where the
-- book is told, it is the one to which the group refers.
pub record IsFoundOriginal (told : Bool) (book : Book) (group : Group) (first : ℕ) : Type 0 where
  pub named : IsNamedBy book group first
  pub keeps : KeepsWire book first
  pub by_digest : HasRequest book first → HasDigestOf book first group.digest
  pub is : IsTrue told → IsOriginalOf book (length (captures book)) group first

-- what looking for it answers
abbrev pub ChoosesOriginal : Bool → Book → Group → List ℕ → Result (Option ℕ) PieceFault → Type 0
ChoosesOriginal told book group candidates (Ok (Some first)) = IsFoundOriginal told book group first
ChoosesOriginal told book group candidates (Ok None) = IsTrue told → NoneIs book group candidates (length candidates)
ChoosesOriginal told book group candidates (Err (pieces.Full count limit)) = ⊥
ChoosesOriginal told book group candidates (Err pieces.NotAPiece) = ⊥
ChoosesOriginal told book group candidates (Err pieces.DiskFault) = ⊤
ChoosesOriginal told book group candidates (Err (pieces.Damaged at kept found)) = (at < length (captures book)) × IsDamaged told kept found
ChoosesOriginal told book group candidates (Err pieces.Memory) = ⊤

abbrev pub FindsOriginal : Bool → Book → Group → Result (Option ℕ) PieceFault → Type 0
FindsOriginal told book group (Ok (Some first)) = (group.same ≢ None) × IsFoundOriginal told book group first
FindsOriginal told book group (Ok None) = group.same ≡ None
FindsOriginal told book group (Err (pieces.Full count limit)) = ⊥
FindsOriginal told book group (Err pieces.NotAPiece) = IsTrue told → RefersToNone book group
FindsOriginal told book group (Err pieces.DiskFault) = ⊤
FindsOriginal told book group (Err (pieces.Damaged at kept found)) = (at < length (captures book)) × IsDamaged told kept found
FindsOriginal told book group (Err pieces.Memory) = ⊤
