-- What stands behind a response's head, whatever bytes these are: the framing that it tells, and the payload.
use Rattle.std.specs.Prelude.{◌≡◌, ℕ, ◌^◌, ◌<◌, Bool, true, false, List, length, Option, Some, None, Ok}
use Rattle.sha1.specs.Sha1.{sha1}
use Rattle.httparse.specs.Grammar.{ResponseHead}
use Rattle.capture.specs.Body.{IsWire}
use Rattle.capture.specs.Captures.{HasPayload}
use Rattle.capture.specs.First.{HeadTells, Responses}
use Rattle.capture.specs.Message.{IsResponseHeadText}
use Rattle.capture.specs.Methods.{asks_for_head}
use Rattle.capture.specs.Payload.{IsPayload}
use Rattle.capture.specs.declared.framing.Framing.{Framing}
use Rattle.capture.specs.declared.framing.Framing.TheVariants.{Empty, Length, Chunked, ToEnd}

-- whether the text is the head of a response
abbrev pub IsHead : List ℕ → Bool → Type 0
IsHead text true = (h : ResponseHead) × IsResponseHeadText text h
IsHead text false = (h : ResponseHead) → ¬ (IsResponseHeadText text h)

-- a response's head that stands there; or what stands there is none
abbrev pub IsHeadAt : List ℕ → Option (List ℕ) → Type 0
IsHeadAt text (Some head) = head ≡ text
IsHeadAt text None = IsHead text false

-- the framing of what stands behind a head that answers a request of this method; or that no body which has a length in 64
-- bits stands behind it
abbrev pub TellsFraming : List ℕ → List ℕ → Option Framing → Type 0
TellsFraming method head (Some framing) = HeadTells (Responses (asks_for_head method)) head (Ok framing)
TellsFraming method head None =
    (cut : Bool) (wire payload : List ℕ) → length wire < 2 ^ 64 → HasPayload cut method head wire payload → ⊥

-- a wire of this framing is its payload as it stands
abbrev pub is_plain : Framing → Bool
is_plain Empty = true
is_plain (Length n) = true
is_plain Chunked = false
is_plain ToEnd = true

-- the payload of a wire, whole or cut; or that it isn't a wire of that framing
abbrev pub HoldsPayload : Bool → Framing → List ℕ → Option (List ℕ) → Type 0
HoldsPayload cut framing wire (Some payload) = IsPayload cut framing wire payload
HoldsPayload cut framing wire None = ¬ (IsWire cut framing wire)

-- a head and a wire, whole or cut, decode to this payload
pub record Decodes (cut : Bool) (method head wire payload : List ℕ) : Type 0 where
  pub framing : Framing
  pub tells : HeadTells (Responses (asks_for_head method)) head (Ok framing)
  pub decoded : IsPayload cut framing wire payload

-- the digest of a payload that was found, if one was
abbrev pub digest_in : Option (List ℕ) → Option (List ℕ)
digest_in None = None
digest_in (Some payload) = Some (sha1 payload)

-- the digest of the payload of a wire, whole or cut; or that it isn't a wire of that framing
abbrev pub HoldsDigest : Bool → Framing → List ℕ → Option (List ℕ) → Type 0
HoldsDigest cut framing wire (Some digest) = (payload : List ℕ) × IsPayload cut framing wire payload × (digest ≡ sha1 payload)
HoldsDigest cut framing wire None = ¬ (IsWire cut framing wire)

-- the digest of what a head and a wire decode to; or that they have no payload
abbrev pub DecodesToDigest : Bool → List ℕ → List ℕ → List ℕ → Option (List ℕ) → Type 0
DecodesToDigest cut method head wire (Some digest) = (payload : List ℕ) × Decodes cut method head wire payload × (digest ≡ sha1 payload)
DecodesToDigest cut method head wire None = (payload : List ℕ) → HasPayload cut method head wire payload → ⊥
