-- The payload of a response, which is walked over slice by slice.
use Rattle.std.proofs.Common.{◌≡◌, ℕ, ◌+◌, Bool, true, false, List, [], ◌∷◌, ◌++◌, length, refl, sym, ap, ◌∙◌, arith, append_assoc, append-nil, length-append}
use Rattle.std.specs.Prelude.{◌==◌}
use Rattle.std.proofs.lemmas.Bool.{eqb-true}
use Rattle.capture.specs.Body.{IsWire}
use Rattle.capture.specs.Payload.{IsPayload}
use Rattle.capture.specs.declared.framing.Framing.{Framing}
use Rattle.capture.proofs.PayloadLaws.{body_has_payload, cut_has_payload}
use Rattle.http_head.specs.declared.head.Received.{Received}
use Rattle.http_wire.specs.Messages.{IsOneResponse}
use Rattle.message_body.specs.Slices.{IsLeft, LeavesBehind}

-- ---- the payload

payload_of_wire : (cut : Bool) (framing : Framing) (wire : List ℕ) → IsWire cut framing wire → (payload : List ℕ) × IsPayload cut framing wire payload
payload_of_wire false framing wire is = body_has_payload framing wire is
payload_of_wire true framing wire is = cut_has_payload framing wire is

-- a response has a payload
pub payload_in : (answers_head : Bool) (received : Received) → IsOneResponse answers_head received
    → (payload : List ℕ) × IsPayload received.cut received.framing received.wire payload
payload_in answers_head received (stream, is) = payload_of_wire received.cut received.framing received.wire is.wire_is

-- ---- slice by slice

pub no_bytes : (xs : List ℕ) → (length xs == 0) ≡ true → xs ≡ []
no_bytes [] e = refl
no_bytes (x ∷ xs) e = absurd (omega (arith, eqb-true (length (x ∷ xs)) 0 e))

-- So many bytes were walked over, and this is left.
pub record Counted (payload : List ℕ) (chunked : Bool) (wire : List ℕ) (len : ℕ) : Type 0 where
  pub left : List ℕ
  pub splits : length payload ≡ len + length left
  pub is : IsLeft chunked wire left

pub counted_none : (payload : List ℕ) (chunked : Bool) (wire : List ℕ) → IsLeft chunked wire payload → Counted payload chunked wire 0
counted_none payload chunked wire is = record { left = payload; splits = omega arith; is = is }

pub counted_on : (payload slice : List ℕ) (chunked still : Bool) (wire next : List ℕ) (len : ℕ) → (counted : Counted payload chunked wire len)
    → LeavesBehind counted.left slice still next → Counted payload still next (len + length slice)
counted_on payload slice chunked still wire next len counted leaves = record {
  left = leaves.behind;
  splits = omega (arith, counted.splits, ap length leaves.splits, length-append slice leaves.behind);
  is = leaves.is;
}

pub counted_all : (payload : List ℕ) (chunked : Bool) (wire : List ℕ) (len : ℕ) → (counted : Counted payload chunked wire len)
    → counted.left ≡ [] → len ≡ length payload
counted_all payload chunked wire len counted none =
    let e : length counted.left ≡ 0 = ap length none in
    omega (arith, counted.splits, e)

-- What was walked over stands behind the text, and this is left.
pub record IsPut (old payload : List ℕ) (chunked : Bool) (wire now : List ℕ) : Type 0 where
  pub left : List ℕ
  pub splits : old ++ payload ≡ now ++ left
  pub is : IsLeft chunked wire left

pub put_none : (old payload : List ℕ) (chunked : Bool) (wire : List ℕ) → IsLeft chunked wire payload → IsPut old payload chunked wire old
put_none old payload chunked wire is = record { left = payload; splits = refl; is = is }

pub put_on : (old payload slice : List ℕ) (chunked still : Bool) (wire next was now : List ℕ) → (put : IsPut old payload chunked wire was)
    → LeavesBehind put.left slice still next → now ≡ was ++ slice → IsPut old payload still next now
put_on old payload slice chunked still wire next was now put leaves is = record {
  left = leaves.behind;
  splits = put.splits ∙ ap (λ (l : List ℕ). was ++ l) leaves.splits ∙ sym (append_assoc was slice leaves.behind)
      ∙ ap (λ (l : List ℕ). l ++ leaves.behind) (sym is);
  is = leaves.is;
}

pub put_all_of : (old payload : List ℕ) (chunked : Bool) (wire now : List ℕ) → (put : IsPut old payload chunked wire now) → put.left ≡ [] → now ≡ old ++ payload
put_all_of old payload chunked wire now put none =
    sym (put.splits ∙ ap (λ (l : List ℕ). now ++ l) none ∙ append-nil now)
