-- What a text is that is decoded as a chunked body (RFC 9112, section 7.1): a whole body, one that was cut, or neither.
use Rattle.std.specs.Prelude.{◌≡◌, ◌≢◌, ◌≤◌, ℕ, true, None, List, length, take, drop}
use Rattle.capture.specs.Head.{section_len}
use Rattle.capture.specs.Payload.{IsJoined, IsCutJoined}
use Rattle.http_head.specs.Sections.{IsSection}
use Rattle.message_body.specs.Slices.{IsLeft}
use Rattle.message_body.specs.steps.Splits.{HasNoBody, HasNoCut}
use Rattle.message_body.specs.declared.decode.Decoded.{Decoded}
use Rattle.message_body.specs.declared.decode.Decoded.TheVariants.{Whole, Cut, Neither}
use Rattle.message_body.specs.declared.decode.TrailerSeen.{TrailerSeen}
use Rattle.message_body.specs.declared.decode.TrailerSeen.TheVariants as seen
use Rattle.message_body.specs.declared.in_place.Gathered.{Gathered}
use Rattle.message_body.specs.declared.in_place.Gathered.TheVariants as gathered

-- what the text is, and its data
abbrev pub IsDecoded : List ℕ → Decoded → Type 0
IsDecoded wire (Whole payload) = IsJoined wire payload
IsDecoded wire (Cut payload) = IsCutJoined wire payload
IsDecoded wire Neither = HasNoBody wire × HasNoCut wire

-- a trailer section that is whole, that hasn't ended, or that is neither
abbrev pub IsTrailerSeen : List ℕ → TrailerSeen → Type 0
IsTrailerSeen text seen.Whole = IsSection text
IsTrailerSeen text seen.Open = section_len text ≡ None
IsTrailerSeen text seen.Wrong = (IsSection text → ⊥) × (section_len text ≢ None)

-- The data up to a line of size 0, and what stands behind that.
pub record EndsBefore (wire data_bytes trailer : List ℕ) : Type 0 where
  pub known : (payload : List ℕ) → IsLeft true wire payload → data_bytes ≡ payload
  pub whole : IsSection trailer → IsJoined wire data_bytes
  pub open_yet : section_len trailer ≡ None → IsCutJoined wire data_bytes
  pub neither : IsTrailerSeen trailer seen.Wrong → HasNoBody wire × HasNoCut wire

-- what the text was whose data were moved to the front of these bytes
abbrev pub IsGathered : List ℕ → List ℕ → Gathered → Type 0
IsGathered wire bytes (gathered.Last len end) = EndsBefore wire (take len bytes) (drop end bytes) × (end ≤ length bytes)
IsGathered wire bytes (gathered.Cut len) = IsCutJoined wire (take len bytes)
IsGathered wire bytes gathered.Nothing = HasNoBody wire × HasNoCut wire
