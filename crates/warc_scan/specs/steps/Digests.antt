-- The digest of a body's payload, and its length.
use Rattle.std.specs.Prelude.{◌≡◌, Bool, List, ℕ, length}
use Rattle.sha1.specs.Sha1.{sha1}
use Rattle.capture.specs.Payload.{IsPayload}
use Rattle.capture.specs.declared.framing.Framing.{Framing}

-- the digest is that of the payload of the wire, whole or cut
abbrev pub HasDigest : Bool → Framing → List ℕ → List ℕ → Type 0
HasDigest cut framing wire digest = (payload : List ℕ) × IsPayload cut framing wire payload × (digest ≡ sha1 payload)

-- and so is the length
abbrev pub HasLength : Bool → Framing → List ℕ → ℕ → Type 0
HasLength cut framing wire len = (payload : List ℕ) × IsPayload cut framing wire payload × (len ≡ length payload)
