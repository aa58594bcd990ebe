-- A chunked wire splits in one way, so each wire has one payload.
use Rattle.std.specs.Prelude.{◌≡◌, ℕ, Bool, true, false, List, ◌++◌}
use Rattle.capture.specs.Body.{IsBody, IsCutWire}
use Rattle.capture.specs.Captures.{IsPayloadOf}
use Rattle.capture.specs.Chunks.{ChunkedBody, IsChunkedBody, print_chunked, CutBody, IsCutBody, print_cut}
use Rattle.capture.specs.Payload.{IsPayload}
use Rattle.capture.specs.declared.book.Book.{Book}
use Rattle.capture.specs.declared.framing.Framing.{Framing}

-- equal texts begin with one chunked body
abbrev pub WholeBodiesSplitOneWay : Type 0
WholeBodiesSplitOneWay =
    (a b : ChunkedBody) (rest other : List ℕ) → IsChunkedBody a → IsChunkedBody b
    → print_chunked a ++ rest ≡ print_chunked b ++ other → (a ≡ b) × (rest ≡ other)

-- a text is one chunked body that was cut
abbrev pub CutBodiesSplitOneWay : Type 0
CutBodiesSplitOneWay = (a b : CutBody) → IsCutBody a → IsCutBody b → print_cut a ≡ print_cut b → a ≡ b

-- a text that begins with a whole chunked body is none that was cut
abbrev pub NoBodyIsWholeAndCut : Type 0
NoBodyIsWholeAndCut =
    (whole : ChunkedBody) (rest : List ℕ) (cut : CutBody) → IsChunkedBody whole → IsCutBody cut
    → print_chunked whole ++ rest ≡ print_cut cut → ⊥

-- a wire has one payload, whole or cut
abbrev pub WiresHaveOnePayload : Type 0
WiresHaveOnePayload =
    (cut : Bool) (framing : Framing) (wire payload other : List ℕ) → IsPayload cut framing wire payload
    → IsPayload cut framing wire other
    → payload ≡ other

-- a body of a framing has a payload
abbrev pub BodiesHaveAPayload : Type 0
BodiesHaveAPayload = (framing : Framing) (wire : List ℕ) → IsBody framing wire → (payload : List ℕ) × IsPayload false framing wire payload

-- and so has a body that was cut
abbrev pub CutWiresHaveAPayload : Type 0
CutWiresHaveAPayload = (framing : Framing) (wire : List ℕ) → IsCutWire framing wire → (payload : List ℕ) × IsPayload true framing wire payload

-- a capture has one payload
abbrev pub CapturesHaveOnePayload : Type 0
CapturesHaveOnePayload =
    (book : Book) (number : ℕ) (payload other : List ℕ) → IsPayloadOf book number payload → IsPayloadOf book number other
    → payload ≡ other
