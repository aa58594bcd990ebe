-- What is kept of the captures in memory, and where they stand in the volumes.
use Rattle.std.specs.Prelude.{◌≡◌, ◌≢◌, ℕ, suc, ◌+◌, ◌^◌, ◌<◌, ◌≤◌, Bool, true, false, List, [], ◌∷◌, ◌++◌, length, take, drop, slice_get, slice_index_or, Option, Some, None, if◌then◌else◌, not, ⊤, get_or}
use Rattle.sha1.specs.Sha1.{sha1}
use Rattle.capture.specs.Captures.{captures, first_number, kept_wire, HasPayload, IsPayloadOf}
use Rattle.capture.specs.declared.book.Book.{Book}
use Rattle.capture.specs.declared.book.Volume.{Volume}
use Rattle.capture.specs.declared.captured.Kept.{Kept}
use Rattle.capture.specs.declared.captured.Kept.TheVariants as keeps
use Rattle.capture.specs.declared.captured.Stored.{Stored}
use Rattle.revisit_table.specs.Table.{Table}
use Rattle.time_text.specs.Texts.{InRange}
use Rattle.warc_text.specs.Books.{IsGroupText}
use Rattle.warc_text.specs.Ids.{id_of}
use Rattle.warc_text.specs.declared.id.IdKind.TheVariants.{Response}
use Rattle.archive_shelf.specs.Comparing.{KeepsWire}
use Rattle.archive_volumes.specs.declared.spot.Form.{Form}
use Rattle.archive_volumes.specs.declared.spot.Form.TheVariants as forms
use Rattle.archive_volumes.specs.declared.spot.Spot.{Spot}

-- ---- a capture

-- in which form a capture is kept
abbrev pub form_of : Kept → Form
form_of (keeps.Wire wire) = forms.Whole
form_of (keeps.Same first) = forms.Same first
form_of (keeps.Cut wire) = forms.Cut

-- only as much of the wire is kept as came
abbrev pub is_cut_form : Form → Bool
is_cut_form forms.Whole = false
is_cut_form (forms.Same first) = false
is_cut_form forms.Cut = true
is_cut_form (forms.Told revisit) = false

-- another capture keeps the wire
abbrev pub is_same_form : Form → Bool
is_same_form forms.Whole = false
is_same_form (forms.Same first) = true
is_same_form forms.Cut = false
is_same_form (forms.Told revisit) = revisit

-- the capture that keeps the wire, where it is known
abbrev pub keeper_in : Form → Option ℕ
keeper_in forms.Whole = None
keeper_in (forms.Same first) = Some first
keeper_in forms.Cut = None
keeper_in (forms.Told revisit) = None

-- a line alone told of it: its records weren't read
abbrev pub is_told_form : Form → Bool
is_told_form forms.Whole = false
is_told_form (forms.Same first) = false
is_told_form forms.Cut = false
is_told_form (forms.Told revisit) = true

-- what is kept of a capture, by the digest of its payload and the places of its group and of its head
abbrev pub spot_of : Stored → List ℕ → ℕ → ℕ → ℕ → Spot
spot_of stored digest volume at head_at = record {
  method = stored.method;
  uri = stored.uri;
  date = stored.date;
  digest = digest;
  form = form_of stored.kept;
  volume = volume;
  at = at;
  head_at = head_at;
  head_len = length stored.head;
  wire_len = length (kept_wire stored.kept);
}

-- what a capture refers to is earlier, and keeps its whole wire
abbrev pub RefersBack : Book → ℕ → Form → Type 0
RefersBack book number forms.Whole = ⊤
RefersBack book number (forms.Same first) = (first < number) × KeepsWire book first
RefersBack book number forms.Cut = ⊤
RefersBack book number (forms.Told revisit) = ⊤

-- where the capture keeps its wire, this is the digest of its payload
abbrev pub HasOwnDigest : Stored → Kept → List ℕ → Type 0
HasOwnDigest stored (keeps.Wire wire) digest =
    (payload : List ℕ) × HasPayload false stored.method stored.head wire payload × (digest ≡ sha1 payload)
HasOwnDigest stored (keeps.Same first) digest = ⊤
HasOwnDigest stored (keeps.Cut wire) digest =
    (payload : List ℕ) × HasPayload true stored.method stored.head wire payload × (digest ≡ sha1 payload)

-- the capture with this number is one of the volume with that number
pub record IsInVolume (book : Book) (number volume : ℕ) : Type 0 where
  pub of : Volume
  pub placed : slice_get book.volumes volume ≡ Some of
  pub from : first_number book volume ≤ number
  pub below : number < first_number book volume + length of.captures

-- Whatever the disk tells: this is kept of the book's capture with this number. Of one that a line alone told of, whether it is a revisit; the
-- digest that the line told is that of its payload, unless the book was made up for the line, which has no request then.
pub record IsSpotOf (book : Book) (number : ℕ) (spot : Spot) : Type 0 where
  pub stored : Stored
  pub placed : slice_get (captures book) number ≡ Some stored
  pub method : spot.method ≡ stored.method
  pub uri : spot.uri ≡ stored.uri
  pub date : spot.date ≡ stored.date
  pub form : is_told_form spot.form ≡ false → spot.form ≡ form_of stored.kept
  pub revisit : is_same_form spot.form ≡ is_same_form (form_of stored.kept)
  pub digest : is_told_form spot.form ≡ false → HasOwnDigest stored stored.kept spot.digest
  pub line : is_told_form spot.form ≡ true → stored.request ≢ []
      → (payload : List ℕ) × IsPayloadOf book number payload × (spot.digest ≡ sha1 payload)
  pub refers : RefersBack book number spot.form
  pub inside : IsInVolume book number spot.volume
  pub in_range : InRange spot.date
  pub short : length spot.uri < 2 ^ 61
  pub ends : spot.head_at + spot.head_len + spot.wire_len < 2 ^ 62

-- the part of a text from a place on
abbrev pub part : List ℕ → ℕ → ℕ → List ℕ
part text at long = take long (drop at text)

-- the text of a volume, by its number
abbrev pub text_at : List (List ℕ) → ℕ → List ℕ
text_at texts volume = slice_index_or texts volume []

-- the group of the capture with this number begins at this place of a text
pub record HasGroupAt (book : Book) (number : ℕ) (text : List ℕ) (at : ℕ) : Type 0 where
  pub front : List ℕ
  pub group : List ℕ
  pub rest : List ℕ
  pub is : IsGroupText book number group
  pub composed : text ≡ front ++ (group ++ rest)
  pub behind : at ≡ length front

-- what a revisit refers to is found by the id of its record: no earlier capture has that
abbrev pub IsFoundById : List ℕ → Kept → Type 0
IsFoundById namespace (keeps.Wire wire) = ⊤
IsFoundById namespace (keeps.Same first) = (other : ℕ) → other < first → id_of namespace Response other ≢ id_of namespace Response first
IsFoundById namespace (keeps.Cut wire) = ⊤

-- Where the book is told: the group of the capture stands there, and this is the digest of its payload. Its head and its wire stand there, unless
-- a line alone told of it: then what it refers to can be found.
pub record IsPlaced (texts : List (List ℕ)) (book : Book) (number : ℕ) (spot : Spot) : Type 0 where
  pub payload : List ℕ
  pub has : IsPayloadOf book number payload
  pub digest : spot.digest ≡ sha1 payload
  pub there : spot.volume < length texts
  pub group : HasGroupAt book number (text_at texts spot.volume) spot.at
  pub within : spot.head_at + spot.head_len + spot.wire_len ≤ length (text_at texts spot.volume)
  pub head : is_told_form spot.form ≡ false → part (text_at texts spot.volume) spot.head_at spot.head_len ≡ has.stored.head
  pub wire : is_told_form spot.form ≡ false
      → part (text_at texts spot.volume) (spot.head_at + spot.head_len) spot.wire_len ≡ kept_wire has.stored.kept
  pub found : is_told_form spot.form ≡ true → IsFoundById book.namespace has.stored.kept

-- where the disk tells: the group begins within the text of its volume, and head and wire are within it
pub record HasPlace (texts : List (List ℕ)) (spot : Spot) : Type 0 where
  pub there : spot.volume < length texts
  pub begins : spot.at ≤ length (text_at texts spot.volume)
  pub within : spot.head_at + spot.head_len + spot.wire_len ≤ length (text_at texts spot.volume)

-- the bytes of the head and of the wire
abbrev pub head_in : List (List ℕ) → Spot → List ℕ
head_in texts spot = part (text_at texts spot.volume) spot.head_at spot.head_len

abbrev pub wire_in : List (List ℕ) → Spot → List ℕ
wire_in texts spot = part (text_at texts spot.volume) (spot.head_at + spot.head_len) spot.wire_len

-- ---- all captures

-- whatever the disk tells: one for each capture, in order of their numbers
pub record AreSpotsOf (book : Book) (spots : List Spot) : Type 0 where
  pub count : length spots ≡ length (captures book)
  pub each : (number : ℕ) (spot : Spot) → slice_get spots number ≡ Some spot → IsSpotOf book number spot

-- where the disk tells, whether the book is known or not: what is read of each is within the text of its volume
pub record AreWithin (texts : List (List ℕ)) (spots : List Spot) : Type 0 where
  pub each : (number : ℕ) (spot : Spot) → slice_get spots number ≡ Some spot → HasPlace texts spot

-- where the book is told: each stands where it says, and ends before the next one of its volume begins
pub record ArePlaced (texts : List (List ℕ)) (book : Book) (spots : List Spot) : Type 0 where
  pub each : (number : ℕ) (spot : Spot) → slice_get spots number ≡ Some spot → IsPlaced texts book number spot
  pub apart : (number : ℕ) (spot next : Spot) (group : List ℕ) → slice_get spots number ≡ Some spot → slice_get spots (suc number) ≡ Some next
      → next.volume ≡ spot.volume → IsGroupText book number group → spot.at + length group ≤ next.at

-- where the book isn't told: a capture that a line alone told of, which isn't a revisit, counts as one that keeps its whole wire
pub record AreHeldWhole (book : Book) (spots : List Spot) : Type 0 where
  pub each : (number : ℕ) (spot : Spot) → slice_get spots number ≡ Some spot → spot.form ≡ forms.Told false → KeepsWire book number

-- ---- the table of digests

-- the capture keeps its whole wire, or may do so, as far as is known
abbrev pub may_be_whole : Form → Bool
may_be_whole forms.Whole = true
may_be_whole (forms.Same first) = false
may_be_whole forms.Cut = false
may_be_whole (forms.Told revisit) = not revisit

-- the captures from a number on that keep their whole wire or may do so, each with the digest that is kept
abbrev pub whole_from : ℕ → List Spot → List (List ℕ × ℕ)
whole_from from [] = []
whole_from from (spot ∷ spots) =
    if may_be_whole spot.form then (spot.digest, from) ∷ whole_from (suc from) spots else whole_from (suc from) spots

-- the table's captures are those
abbrev pub IsTableOf : List Spot → Table → Type 0
IsTableOf spots table = table.kept ≡ whole_from 0 spots

-- the capture with this number keeps its whole wire, or may do so
pub record MayBeWholeAt (spots : List Spot) (number : ℕ) : Type 0 where
  pub spot : Spot
  pub placed : slice_get spots number ≡ Some spot
  pub whole : may_be_whole spot.form ≡ true

-- each candidate does
abbrev pub MayBeWhole : List Spot → List ℕ → Type 0
MayBeWhole spots candidates = (k : ℕ) → k < length candidates → MayBeWholeAt spots (get_or candidates k 0)
