-- A capture that fits has one payload.
use Rattle.std.proofs.Common.{◌≡◌, ℕ, Bool, true, false, List, subst}
use Rattle.capture.specs.BodyLaws.{BodiesHaveAPayload, CutWiresHaveAPayload, WiresHaveOnePayload}
use Rattle.capture.specs.Captures.{HasPayload}
use Rattle.capture.specs.Methods.{asks_for_head}
use Rattle.capture.specs.Payload.{IsPayload}
use Rattle.capture.specs.WellFormed.{RespondsTo}
use Rattle.capture.specs.declared.captured.Taken.{Taken}
use Rattle.capture.specs.declared.framing.Framing.{Framing}
use Rattle.warc_text.specs.Fits.{Fits}
use Rattle.archive_reading.proofs.DecodeLaws.{one_framing}

-- there is one
pub record HasOne (cut : Bool) (method head wire : List ℕ) : Type 0 where
  pub payload : List ℕ
  pub has : HasPayload cut method head wire payload

has_one_by : BodiesHaveAPayload → CutWiresHaveAPayload → (cut : Bool) (method head wire : List ℕ) → RespondsTo cut method head wire
    → HasOne cut method head wire
has_one_by whole cut_short false method head wire is =
    let there = whole is.framing wire is.whole.body in
    record {
      payload = there.0;
      has = record { parsed = is.parsed; framing = is.framing; whole = is.head_is.whole; framed = is.whole.framed; wire_is = is.whole.body; decoded = there.1 };
    }
has_one_by whole cut_short true method head wire is =
    let there = cut_short is.framing wire is.cut.body in
    record {
      payload = there.0;
      has = record { parsed = is.parsed; framing = is.framing; whole = is.cut.head; framed = is.cut.framed; wire_is = is.cut.body; decoded = there.1 };
    }

pub has_one : BodiesHaveAPayload → CutWiresHaveAPayload → (taken : Taken) → Fits taken → HasOne taken.cut taken.method taken.head taken.wire
has_one whole cut_short taken fits = has_one_by whole cut_short taken.cut taken.method taken.head taken.wire fits.well_formed.response

-- and only one
pub one_payload : WiresHaveOnePayload → (cut : Bool) (method head wire payload other : List ℕ) → HasPayload cut method head wire payload
    → HasPayload cut method head wire other → payload ≡ other
one_payload one cut method head wire payload other has too =
    let same : too.framing ≡ has.framing =
    one_framing (asks_for_head method) head too.framing has.framing (too.parsed, too.whole, too.framed) (has.parsed, has.whole, has.framed) in
    one cut has.framing wire payload other has.decoded (subst (λ (f : Framing). IsPayload cut f wire other) same too.decoded)
