-- The group with a number, as it is found: the text of a capture that is well formed as far as its group tells (ISO 28500,
-- WARC 1.1, section 6).
use Rattle.std.specs.Prelude.{◌≡◌, ℕ, ◌+◌, ◌-◌, ◌<◌, ◌^◌, Bool, true, false, List, length, Option, Some, None, option_map, IsTrue}
use Rattle.httparse.specs.Grammar.{ResponseHead}
use Rattle.sha1.specs.Sha1.{sha1}
use Rattle.digest32.specs.Base32.{IsDigest}
use Rattle.time_text.specs.Texts.{InRange}
use Rattle.capture.specs.Captures.{HasPayload, taken_back}
use Rattle.capture.specs.Target.{is_accepted_uri}
use Rattle.capture.specs.WellFormed.{IsRequestOf, RespondsTo, TellsBody}
use Rattle.capture.specs.declared.captured.Kept.{Kept}
use Rattle.capture.specs.declared.captured.Kept.TheVariants.{Wire, Same, Cut}
use Rattle.capture.specs.declared.framing.Framing.{Framing}
use Rattle.warc_text.specs.Groups.{answer_block}
use Rattle.warc_text.specs.Ids.{id_of}
use Rattle.warc_text.specs.Records.{answer_text, group_text}
use Rattle.warc_text.specs.References.{Reference}
use Rattle.warc_text.specs.declared.id.IdKind.TheVariants.{Response}
use Rattle.record_opening.specs.Openings.{IsRevisited}
use Rattle.warc_scan.specs.declared.group.Group.{Group}
use Rattle.warc_scan.specs.declared.group.Revisited.{Revisited}

-- what is referred to, as the text of a group has it
abbrev pub reference_in : Option Revisited → Option Reference
reference_in same = option_map (λ r. record { id = r.id; uri = r.uri; date = r.date }) same

-- the response is whole, or cut, as is told, and the digest is that of its payload
pub record IsResponse (cut : Bool) (method head wire digest : List ℕ) : Type 0 where
  pub responds : RespondsTo cut method head wire
  pub payload : List ℕ
  pub has : HasPayload cut method head wire payload
  pub digest_is : digest ≡ sha1 payload

-- the head of a response that tells of a body, some digest, and some record that has the same payload
pub record IsRevisit (method head digest : List ℕ) (same : Option Reference) : Type 0 where
  pub parsed : ResponseHead
  pub framing : Framing
  pub tells : TellsBody method head parsed framing
  pub digest_is : IsDigest digest
  pub reference : Reference
  pub refers : same ≡ Some reference
  pub is : IsRevisited reference

-- the number of a revisit's original, as long as nobody has looked for it
abbrev pub unknown_number : ℕ
unknown_number = 2 ^ 32 - 1

-- the response of a group, by what the capture keeps
abbrev pub IsAnswer : List ℕ → List ℕ → List ℕ → Option Reference → Kept → Type 0
IsAnswer method head digest same (Wire wire) = (same ≡ None) × IsResponse false method head wire digest
IsAnswer method head digest same (Same number) = (number ≡ unknown_number) × IsRevisit method head digest same
IsAnswer method head digest same (Cut wire) = (same ≡ None) × IsResponse true method head wire digest

-- the length of the payload, by what is kept: 0 of a revisit, which keeps none
abbrev pub HasPayloadLen : List ℕ → List ℕ → Kept → ℕ → Type 0
HasPayloadLen method head (Wire wire) len = (payload : List ℕ) × HasPayload false method head wire payload × (len ≡ length payload)
HasPayloadLen method head (Same number) len = len ≡ 0
HasPayloadLen method head (Cut wire) len = (payload : List ℕ) × HasPayload true method head wire payload × (len ≡ length payload)

-- the length of the text and of its first record, which ends with its block and two line ends, and where the head and the
-- body stand in it
pub record HasPlaces (text first block : List ℕ) (group : Group) : Type 0 where
  pub len : group.len ≡ length text
  pub first_len : group.first_len ≡ length first
  pub head : group.head_at + length block + 4 ≡ length first
  pub body : group.body_at ≡ group.head_at + length group.stored.head

-- the text is the group with this number
pub record IsGroup (namespace : List ℕ) (number : ℕ) (text : List ℕ) (group : Group) : Type 0 where
  pub number_is : group.number ≡ number
  pub composed : text ≡ group_text namespace number (taken_back group.stored) group.digest (reference_in group.same)
  pub short : length text < 2 ^ 63
  -- the capture is well formed, as far as its group tells
  pub target : IsTrue (is_accepted_uri group.stored.uri)
  pub date : InRange group.stored.date
  pub request : IsRequestOf group.stored.method group.stored.request
  pub answer : IsAnswer group.stored.method group.stored.head group.digest (reference_in group.same) group.stored.kept
  pub payload_len : HasPayloadLen group.stored.method group.stored.head group.stored.kept group.payload_len
  pub places : HasPlaces text
      (answer_text (id_of namespace Response number) (taken_back group.stored) group.digest (reference_in group.same))
      (answer_block (taken_back group.stored) (reference_in group.same)) group
