-- A capture of which a line alone told, read whole by its place.
use Rattle.std.specs.Prelude.{◌≡◌, ◌≢◌, ◌⊎◌, ℕ, suc, ◌+◌, ◌^◌, ◌<◌, ◌≤◌, Bool, true, false, if◌then◌else◌, IsSomeAnd, List, ◌++◌, length, slice_get, get_or, Option, Some, None}
use Rattle.std.specs.Str.{bytes_eq}
use Rattle.sha1.specs.Sha1.{sha1}
use Rattle.capture.specs.Captures.{captures, is_cut, kept_wire, HasPayload, IsPayloadOf}
use Rattle.capture.specs.declared.book.Book.{Book}
use Rattle.capture.specs.declared.captured.Brought.{Brought}
use Rattle.capture.specs.declared.captured.Kept.TheVariants.{Same}
use Rattle.capture.specs.declared.captured.Stored.{Stored}
use Rattle.warc_scan.specs.Answers.{BeginsWithGroup}
use Rattle.warc_scan.specs.declared.group.Group.{Group}
use Rattle.warc_scan.specs.declared.group.Revisited.{Revisited}
use Rattle.warc_text.specs.Books.{IsGroupText}
use Rattle.warc_text.specs.Ids.{id_of}
use Rattle.warc_text.specs.declared.id.IdKind.TheVariants.{Response}
use Rattle.archive_shelf.specs.Comparing.{KeepsWire}
use Rattle.archive_reading.specs.Bringing.{AreOf, DecodesThere}
use Rattle.archive_reading.specs.Decoding.{Decodes, IsHead}
use Rattle.archive_volumes.specs.Spots.{form_of, head_in, is_same_form, is_told_form, part, text_at, wire_in}
use Rattle.archive_reading.specs.declared.payload.ReadBack.{ReadBack}
use Rattle.archive_reading.specs.declared.payload.ReadBack.TheVariants as back
use Rattle.archive_reading.specs.declared.reread.Reread.{Reread}
use Rattle.archive_reading.specs.declared.reread.Reread.TheVariants as reread
use Rattle.archive_reading.specs.declared.reread.Revisit.{Revisit}
use Rattle.archive_volumes.specs.declared.spot.Spot.{Spot}

-- where the book is told: bytes begin with the group of the capture with this number
pub record BeginWithText (book : Book) (number : ℕ) (bytes : List ℕ) : Type 0 where
  pub group : List ℕ
  pub rest : List ℕ
  pub is : IsGroupText book number group
  pub short : length group < 2 ^ 63
  pub composed : bytes ≡ group ++ rest

-- ---- what is read

-- Whatever the disk tells: there is a response's head, and a payload that is kept has the digest of the line; or what the group tells has another
-- one, or there is no group.
abbrev pub IsReread : List ℕ → Reread → Type 0
IsReread digest (reread.Own head payload cut) = IsHead head true × (sha1 payload ≡ digest)
IsReread digest (reread.Same head same) = IsHead head true
IsReread digest (reread.Damaged found) = found ≢ Some digest

-- what is kept of a capture is what was stored, but for the digest
pub record IsStoredOf (stored : Stored) (spot : Spot) : Type 0 where
  pub method : stored.method ≡ spot.method
  pub uri : stored.uri ≡ spot.uri
  pub date : stored.date ≡ spot.date
  pub revisit : is_same_form (form_of stored.kept) ≡ is_same_form spot.form

-- a group tells what is kept of its capture
pub record IsAsKept (group : Group) (spot : Spot) : Type 0 where
  pub digest : group.digest ≡ spot.digest
  pub stored : IsStoredOf group.stored spot

-- what a group tells by another digest than the one that is kept; none where the digest is the same one
abbrev pub other_digest : List ℕ → List ℕ → Option (List ℕ)
other_digest found kept = if bytes_eq found kept then None else Some found

-- what a group tells of its capture: the payload, where it keeps its wire, or what it refers to
abbrev pub IsToldOf : Group → Reread → Type 0
IsToldOf group (reread.Own head payload cut) =
    (head ≡ group.stored.head) × HasPayload cut group.stored.method group.stored.head (kept_wire group.stored.kept) payload
    × (cut ≡ is_cut group.stored.kept) × (is_same_form (form_of group.stored.kept) ≡ false)
IsToldOf group (reread.Same head same) = (head ≡ group.stored.head) × (group.same ≡ Some same)
IsToldOf group (reread.Damaged found) = ⊥

-- what is read of a group, where this is kept of its capture: nothing of one that doesn't tell it
abbrev pub IsRereadBy : Group → Spot → Reread → Type 0
IsRereadBy group spot (reread.Own head payload cut) =
    (head ≡ group.stored.head) × HasPayload cut group.stored.method group.stored.head (kept_wire group.stored.kept) payload
    × (cut ≡ is_cut group.stored.kept) × (is_same_form (form_of group.stored.kept) ≡ false) × IsAsKept group spot
IsRereadBy group spot (reread.Same head same) = (head ≡ group.stored.head) × (group.same ≡ Some same) × IsAsKept group spot
IsRereadBy group spot (reread.Damaged found) = (IsAsKept group spot → ⊥) × (found ≡ other_digest group.digest spot.digest)

-- bytes begin with a group of which this is read, or with none
abbrev pub IsRereadIn : List ℕ → ℕ → List ℕ → Spot → Reread → Type 0
IsRereadIn namespace number bytes spot read =
    ((group : Group) × BeginsWithGroup namespace number bytes group × IsRereadBy group spot read)
    ⊎ (((group : Group) → BeginsWithGroup namespace number bytes group → ⊥) × (read ≡ reread.Damaged None))

-- ---- where the disk tells, whatever is told of the book

-- the bytes of a capture's volume from its place on
abbrev pub from_place : List (List ℕ) → Spot → ℕ → List ℕ
from_place texts spot long = part (text_at texts spot.volume) spot.at long

-- it isn't before the place where the next capture of the volume begins, or where the volume's text ends
pub record Reaches (texts : List (List ℕ)) (spots : List Spot) (number : ℕ) (spot : Spot) (end : ℕ) : Type 0 where
  pub next : (next : Spot) → slice_get spots (suc number) ≡ Some next → next.volume ≡ spot.volume → next.at ≤ end
  pub last : ((next : Spot) → slice_get spots (suc number) ≡ Some next → next.volume ≡ spot.volume → ⊥) → length (text_at texts spot.volume) ≤ end

-- this is read of the bytes that stand at the capture's place, as far as its group may reach
pub record IsRereadThere (texts : List (List ℕ)) (spots : List Spot) (namespace : List ℕ) (number : ℕ) (spot : Spot) (read : Reread) : Type 0 where
  pub long : ℕ
  pub reaches : Reaches texts spots number spot (spot.at + long)
  pub is : IsRereadIn namespace number (from_place texts spot long) spot read

-- a group with the capture's number stands at its place, and tells what is kept of it
pub record StandsThere (texts : List (List ℕ)) (namespace : List ℕ) (number : ℕ) (spot : Spot) (group : Group) : Type 0 where
  pub long : ℕ
  pub begins : BeginsWithGroup namespace number (from_place texts spot long) group
  pub as_kept : IsAsKept group spot

-- a group's capture keeps its wire, and these are its head and its payload
pub record IsOwnIn (group : Group) (head payload : List ℕ) : Type 0 where
  pub head_is : head ≡ group.stored.head
  pub own : is_same_form (form_of group.stored.kept) ≡ false
  pub has : HasPayload (is_cut group.stored.kept) group.stored.method group.stored.head (kept_wire group.stored.kept) payload

-- This is found of a capture's payload by the bytes that stand there. Of one whose records were read it is the digest of what its head and its wire
-- decode to; of one of which a line alone told, what the group there tells by another digest than the one that is kept.
pub record IsFoundThere (texts : List (List ℕ)) (spots : List Spot) (namespace : List ℕ) (number : ℕ) (spot : Spot) (found : Option (List ℕ)) : Type 0 where
  pub read : is_told_form spot.form ≡ false → DecodesThere texts spot found
  pub told : is_told_form spot.form ≡ true → IsRereadThere texts spots namespace number spot (reread.Damaged found)

-- what was read of a capture that is to keep its wire is what the group tells that stands there, where a line alone told of it; damage is told with
-- what is found there
abbrev pub IsBackThere : List (List ℕ) → List Spot → List ℕ → ℕ → Spot → ReadBack → Type 0
IsBackThere texts spots namespace number spot (back.Right head payload) =
    is_told_form spot.form ≡ true → (group : Group) × StandsThere texts namespace number spot group × IsOwnIn group head payload
IsBackThere texts spots namespace number spot (back.Damaged found) = IsFoundThere texts spots namespace number spot found

-- a group tells of its capture what is brought: the payload, where it keeps its wire
pub record IsBroughtOf (group : Group) (brought : Brought) : Type 0 where
  pub method : brought.method ≡ group.stored.method
  pub uri : brought.uri ≡ group.stored.uri
  pub date : brought.date ≡ group.stored.date
  pub head : brought.head ≡ group.stored.head
  pub payload : is_same_form (form_of group.stored.kept) ≡ false
      → HasPayload (is_cut group.stored.kept) group.stored.method group.stored.head (kept_wire group.stored.kept) brought.payload

-- of a capture of which a line alone told what the group tells is brought that stands at its place
abbrev pub IsBroughtThere : List (List ℕ) → List ℕ → ℕ → Spot → Brought → Type 0
IsBroughtThere texts namespace number spot brought =
    is_told_form spot.form ≡ true → (group : Group) × StandsThere texts namespace number spot group × IsBroughtOf group brought

-- The bytes that stand there give a capture just this payload. Of one of which a line alone told a group stands at its place that tells what is kept of
-- it, and keeps a whole wire with the payload. Of one whose records were read, a head stands in its volume by which the wire behind it decodes to the payload.
pub record IsChosenThere (texts : List (List ℕ)) (namespace : List ℕ) (spots : List Spot) (payload : List ℕ) (number : ℕ) : Type 0 where
  pub told : (spot : Spot) → slice_get spots number ≡ Some spot → is_told_form spot.form ≡ true
      → (group : Group) × StandsThere texts namespace number spot group
      × HasPayload false group.stored.method group.stored.head (kept_wire group.stored.kept) payload
  pub read : (spot : Spot) → slice_get spots number ≡ Some spot → is_told_form spot.form ≡ false
      → Decodes false spot.method (head_in texts spot) (wire_in texts spot) payload

-- ---- where the book is told

-- the capture keeps its wire, and these are its head and its payload
pub record IsOwnOf (book : Book) (number : ℕ) (head payload : List ℕ) (cut : Bool) : Type 0 where
  pub are : AreOf book number head payload
  pub own : is_same_form (form_of are.has.stored.kept) ≡ false
  pub cut_is : cut ≡ is_cut are.has.stored.kept

-- what a revisit's record tells of the capture that it refers to
pub record TellsOf (book : Book) (first : ℕ) (same : Revisited) : Type 0 where
  pub original : Stored
  pub placed : slice_get (captures book) first ≡ Some original
  pub id_is : same.id ≡ id_of book.namespace Response first
  pub uri_is : same.uri ≡ original.uri
  pub date_is : same.date ≡ original.date

-- the capture is a revisit of that one, and this is its head
pub record IsSameOf (book : Book) (number : ℕ) (head : List ℕ) (same : Revisited) : Type 0 where
  pub stored : Stored
  pub first : ℕ
  pub placed : slice_get (captures book) number ≡ Some stored
  pub kept : stored.kept ≡ Same first
  pub head_is : head ≡ stored.head
  pub tells : TellsOf book first same

abbrev pub IsRereadOf : Book → ℕ → Reread → Type 0
IsRereadOf book number (reread.Own head payload cut) = IsOwnOf book number head payload cut
IsRereadOf book number (reread.Same head same) = IsSameOf book number head same
IsRereadOf book number (reread.Damaged found) = ⊥

-- the revisit that was read, if it is one
abbrev pub revisit_by : Reread → Option Revisit
revisit_by (reread.Own head payload cut) = None
revisit_by (reread.Same head same) = Some (record { head = head; same = same })
revisit_by (reread.Damaged found) = None

-- what was read of a capture that is to keep its wire: a revisit is damage
abbrev pub own_by : Reread → ReadBack
own_by (reread.Own head payload cut) = back.Right head payload
own_by (reread.Same head same) = back.Damaged None
own_by (reread.Damaged found) = back.Damaged found

-- ---- what a revisit refers to

-- the capture with this number has the id, the target and the date that a revisit's record tells
pub record IsToldBy (namespace : List ℕ) (same : Revisited) (number : ℕ) (spot : Spot) : Type 0 where
  pub date : spot.date ≡ same.date
  pub uri : spot.uri ≡ same.uri
  pub id : id_of namespace Response number ≡ same.id

-- It is a candidate that keeps its whole wire, of which the record tells; no candidate before it has its id.
pub record IsFirstTold (book : Book) (same : Revisited) (candidates : List ℕ) (first : ℕ) : Type 0 where
  pub place : ℕ
  pub within : place < length candidates
  pub is : first ≡ get_or candidates place 0
  pub keeps : KeepsWire book first
  pub tells : TellsOf book first same
  pub before : (k : ℕ) → k < place → id_of book.namespace Response (get_or candidates k 0) ≢ same.id

-- its payload
abbrev pub HasItsPayload : Book → ℕ → Option (List ℕ) → Type 0
HasItsPayload book number found = IsSomeAnd found (λ payload. IsPayloadOf book number payload)

-- the id of the record of a capture's response
abbrev pub id_of_response : List ℕ → ℕ → List ℕ
id_of_response namespace number = id_of namespace Response number

-- the payload, where the whole wire is kept
abbrev pub whole_by : Reread → Option (List ℕ)
whole_by (reread.Own head payload false) = Some payload
whole_by (reread.Own head payload true) = None
whole_by (reread.Same head same) = None
whole_by (reread.Damaged found) = None

-- the payload, where it has its digest
abbrev pub right_by : ReadBack → Option (List ℕ)
right_by (back.Right head payload) = Some payload
right_by (back.Damaged found) = None

-- of each candidate this digest is kept
abbrev pub HaveDigest : List Spot → List ℕ → List ℕ → Type 0
HaveDigest spots candidates digest = (k : ℕ) (spot : Spot) → k < length candidates → slice_get spots (get_or candidates k 0) ≡ Some spot → spot.digest ≡ digest
