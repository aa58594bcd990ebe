-- The captures of a book, by their numbers, and their payloads.
use Rattle.std.specs.Prelude.{◌≡◌, ℕ, Bool, true, false, List, [], length, take, slice_get, Some, Ok}
use Rattle.std.specs.List.{flat_map}
use Rattle.httparse.specs.Grammar.{ResponseHead}
use Rattle.capture.specs.Body.{IsWire}
use Rattle.capture.specs.Framing.{response_framing}
use Rattle.capture.specs.Message.{IsResponseHeadText}
use Rattle.capture.specs.Methods.{asks_for_head}
use Rattle.capture.specs.Payload.{IsPayload}
use Rattle.capture.specs.declared.book.Book.{Book}
use Rattle.capture.specs.declared.book.Volume.{Volume}
use Rattle.capture.specs.declared.captured.Kept.{Kept}
use Rattle.capture.specs.declared.captured.Kept.TheVariants.{Wire, Same, Cut}
use Rattle.capture.specs.declared.captured.Stored.{Stored}
use Rattle.capture.specs.declared.captured.Taken.{Taken}
use Rattle.capture.specs.declared.framing.Framing.{Framing}

-- the captures of volumes, in order
abbrev pub captures_in : List Volume → List Stored
captures_in volumes = flat_map (λ volume. volume.captures) volumes

-- all captures: a capture's number is its place here
abbrev pub captures : Book → List Stored
captures book = captures_in book.volumes

-- the number of a volume's first capture
abbrev pub first_number : Book → ℕ → ℕ
first_number book k = length (captures_in (take k book.volumes))

-- the wire that is kept: none where another capture has the payload
abbrev pub kept_wire : Kept → List ℕ
kept_wire (Wire wire) = wire
kept_wire (Same first) = []
kept_wire (Cut wire) = wire

-- the wire that is kept is only as much as came
abbrev pub is_cut : Kept → Bool
is_cut (Wire wire) = false
is_cut (Same first) = false
is_cut (Cut wire) = true

-- a capture as it was taken, as far as it is kept
abbrev pub taken_back : Stored → Taken
taken_back stored = record {
  method = stored.method;
  uri = stored.uri;
  date = stored.date;
  request = stored.request;
  head = stored.head;
  wire = kept_wire stored.kept;
  cut = is_cut stored.kept;
}

-- the payload of a wire, whole or cut, that came behind a response's head, to a request of this method
pub record HasPayload (cut : Bool) (method head wire payload : List ℕ) : Type 0 where
  pub parsed : ResponseHead
  pub framing : Framing
  pub whole : IsResponseHeadText head parsed
  pub framed : response_framing (asks_for_head method) parsed ≡ Ok framing
  pub wire_is : IsWire cut framing wire
  pub decoded : IsPayload cut framing wire payload

-- the capture with this number keeps this whole wire, which has this payload
pub record KeepsPayload (book : Book) (number : ℕ) (stored : Stored) (wire payload : List ℕ) : Type 0 where
  pub placed : slice_get (captures book) number ≡ Some stored
  pub kept : stored.kept ≡ Wire wire
  pub has : HasPayload false stored.method stored.head wire payload

-- the payload of a capture by what it keeps: that of its wire, or of the capture that has the same
abbrev pub IsPayloadBy : Book → Stored → Kept → List ℕ → Type 0
IsPayloadBy book stored (Wire wire) payload = HasPayload false stored.method stored.head wire payload
IsPayloadBy book stored (Same first) payload =
    (original : Stored) × (wire : List ℕ) × KeepsPayload book first original wire payload
IsPayloadBy book stored (Cut wire) payload = HasPayload true stored.method stored.head wire payload

-- the payload of the capture with this number
pub record IsPayloadOf (book : Book) (number : ℕ) (payload : List ℕ) : Type 0 where
  pub stored : Stored
  pub placed : slice_get (captures book) number ≡ Some stored
  pub by_kept : IsPayloadBy book stored stored.kept payload
