-- What a capture is that may be stored, and its payload.
use Rattle.std.specs.Prelude.{◌≡◌, ℕ, List}
use Rattle.capture.specs.Captures.{HasPayload}
use Rattle.capture.specs.declared.captured.Taken.{Taken}
use Rattle.http_head.specs.declared.head.Received.{Received}
use Rattle.warc_text.specs.Fits.{Fits}
use Rattle.case_captures.specs.declared.taking.Prepared.{Prepared}

-- the capture is of this response to a request of this method
pub record IsOf (method : List ℕ) (response : Received) (taken : Taken) : Type 0 where
  pub method_is : taken.method ≡ method
  pub head_is : taken.head ≡ response.head.text
  pub wire_is : taken.wire ≡ response.wire
  pub cut_is : taken.cut ≡ response.cut

-- the payload is that of a capture
abbrev pub IsPayloadOfTaken : Taken → List ℕ → Type 0
IsPayloadOfTaken taken payload = HasPayload taken.cut taken.method taken.head taken.wire payload

-- the capture may be stored, and this is its payload
pub record IsPrepared (prepared : Prepared) : Type 0 where
  pub fits : Fits prepared.taken
  pub has : IsPayloadOfTaken prepared.taken prepared.payload
