-- What is found of a payload by the bytes that stand there.
use Rattle.std.proofs.Common.{◌≡◌, ℕ, ◌+◌, ◌^◌, ◌<◌, Bool, true, false, if◌then◌else◌, List, Option, Some, None, refl, sym, subst, ◌∙◌, arith}
use Rattle.std.specs.Prelude.{drop}
use Rattle.std.specs.Str.{bytes_eq}
use Rattle.std.proofs.lemmas.Bool.{false≢true}
use Rattle.sha1.specs.Sha1.{sha1}
use Rattle.capture.specs.Body.{IsWire}
use Rattle.capture.specs.Captures.{HasPayload}
use Rattle.capture.specs.Methods.{asks_for_head}
use Rattle.capture.specs.declared.framing.Framing.{Framing}
use Rattle.warc_journal.specs.Journals.{texts}
use Rattle.archive_reading.proofs.BringLaws.{short_take}
use Rattle.archive_reading.proofs.DecodeLaws.{one_framing}
use Rattle.archive_reading.specs.Bringing.{DecodesThere, FindsThere, checked_by}
use Rattle.archive_reading.specs.Decoding.{DecodesToDigest, HoldsDigest, HoldsPayload, TellsFraming, digest_in}
use Rattle.archive_reading.specs.Rereading.{IsBackThere, IsFoundThere, IsRereadThere}
use Rattle.archive_volumes.specs.Spots.{head_in, is_cut_form, is_told_form, text_at, wire_in}
use Rattle.archive_reading.specs.declared.payload.ReadBack.{ReadBack}
use Rattle.archive_reading.specs.declared.payload.ReadBack.TheVariants as back
use Rattle.archive_reading.specs.declared.reread.Reread.TheVariants as reread
use Rattle.archive_volumes.specs.declared.spot.Spot.{Spot}

-- ---- by head and wire

-- what was found in a wire has its digest
pub holds_digest : (cut : Bool) (framing : Framing) (wire : List ℕ) (found : Option (List ℕ)) → HoldsPayload cut framing wire found
    → HoldsDigest cut framing wire (digest_in found)
holds_digest cut framing wire None holds = holds
holds_digest cut framing wire (Some payload) holds = (payload, holds, refl)

-- so has what stands behind a head that tells its framing
decodes_digest : (cut : Bool) (method head wire : List ℕ) (framing : Framing) → TellsFraming method head (Some framing) → (found : Option (List ℕ))
    → HoldsDigest cut framing wire found → DecodesToDigest cut method head wire found
decodes_digest cut method head wire framing tells None holds = λ (payload : List ℕ) (has : HasPayload cut method head wire payload).
    holds (subst (λ (f : Framing). IsWire cut f wire)
    (one_framing (asks_for_head method) head has.framing framing (has.parsed, has.whole, has.framed) tells) has.wire_is)
decodes_digest cut method head wire framing tells (Some digest) holds =
    (holds.0, record { framing = framing; tells = tells; decoded = holds.1 }, holds.2)

module _ (texts : List (List ℕ)) (spot : Spot) (head : List ℕ) (is : head ≡ head_in texts spot) where
  -- a head that tells no framing
  pub none_there : spot.head_at + spot.head_len + spot.wire_len < 2 ^ 62 → TellsFraming spot.method head None → DecodesThere texts spot None
  none_there ends tells payload has =
      let there : TellsFraming spot.method (head_in texts spot) None = subst (λ (h : List ℕ). TellsFraming spot.method h None) is tells in
      there (is_cut_form spot.form) (wire_in texts spot) payload
      (omega (arith, ends, short_take spot.wire_len (drop (spot.head_at + spot.head_len) (text_at texts spot.volume)))) has

  module _ (framing : Framing) (tells : TellsFraming spot.method head (Some framing)) where
    pub digest_there : (found : Option (List ℕ)) → HoldsDigest (is_cut_form spot.form) framing (wire_in texts spot) found → DecodesThere texts spot found
    digest_there found holds = decodes_digest (is_cut_form spot.form) spot.method (head_in texts spot) (wire_in texts spot) framing
        (subst (λ (h : List ℕ). TellsFraming spot.method h (Some framing)) is tells) found holds

    -- what was read back
    pub checked_there : (found : Option (List ℕ)) → HoldsPayload (is_cut_form spot.form) framing (wire_in texts spot) found
        → FindsThere texts spot (checked_by spot.digest head found)
    checked_there None holds = digest_there None holds
    checked_there (Some payload) holds = by (bytes_eq (sha1 payload) spot.digest)
      where
        by : (b : Bool) → FindsThere texts spot (if b then back.Right head payload else back.Damaged (Some (sha1 payload)))
        by true = tt
        by false = digest_there (Some (sha1 payload)) (payload, holds, refl)

-- ---- by the bytes that stand there

module _ (texts : List (List ℕ)) (spots : List Spot) (namespace : List ℕ) (number : ℕ) (spot : Spot) where
  pub read_found : is_told_form spot.form ≡ false → (found : Option (List ℕ)) → DecodesThere texts spot found → IsFoundThere texts spots namespace number spot found
  read_found read found there = record { read = λ _. there; told = λ told. absurd (false≢true (sym read ∙ told)) }

  pub told_found : is_told_form spot.form ≡ true → (found : Option (List ℕ)) → IsRereadThere texts spots namespace number spot (reread.Damaged found)
      → IsFoundThere texts spots namespace number spot found
  told_found told found there = record { read = λ read. absurd (false≢true (sym read ∙ told)); told = λ _. there }

  -- of a capture whose records were read
  pub back_there : is_told_form spot.form ≡ false → (read : ReadBack) → FindsThere texts spot read → IsBackThere texts spots namespace number spot read
  back_there read (back.Right head payload) finds = λ told. absurd (false≢true (sym read ∙ told))
  back_there read (back.Damaged found) finds = read_found read found finds
