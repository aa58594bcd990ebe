-- The payload of a body: the body without its transfer coding (RFC 9112, sections 6 and 7.1).
use Rattle.std.specs.Prelude.{◌≡◌, ℕ, Bool, true, false, List}
use Rattle.capture.specs.Chunks.{ChunkedBody, IsChunkedBody, print_chunked, joined_data, CutBody, IsCutBody, print_cut, cut_data}
use Rattle.capture.specs.declared.framing.Framing.{Framing}
use Rattle.capture.specs.declared.framing.Framing.TheVariants.{Empty, Length, Chunked, ToEnd}

-- a whole chunked body, and its data
abbrev pub IsJoined : List ℕ → List ℕ → Type 0
IsJoined wire payload =
    (b : ChunkedBody) × IsChunkedBody b × (wire ≡ print_chunked b) × (payload ≡ joined_data b.chunks)

-- a chunked body that was cut, and the data that came
abbrev pub IsCutJoined : List ℕ → List ℕ → Type 0
IsCutJoined wire payload = (c : CutBody) × IsCutBody c × (wire ≡ print_cut c) × (payload ≡ cut_data c)

-- the payload of a chunked wire, whole or cut
abbrev pub IsChunkedPayload : Bool → List ℕ → List ℕ → Type 0
IsChunkedPayload false wire payload = IsJoined wire payload
IsChunkedPayload true wire payload = IsCutJoined wire payload

-- the payload of a wire, whole or cut
abbrev pub IsPayload : Bool → Framing → List ℕ → List ℕ → Type 0
IsPayload cut Empty wire payload = payload ≡ wire
IsPayload cut (Length n) wire payload = payload ≡ wire
IsPayload cut Chunked wire payload = IsChunkedPayload cut wire payload
IsPayload cut ToEnd wire payload = payload ≡ wire
