-- A request that goes somewhere isn't refused.
use Rattle.std.proofs.Common.{◌≡◌, ◌⊎◌, inl, inr, ℕ, ◌+◌, true, List, length, drop, Some, None, Result, Ok, Err, refl, sym, ◌∙◌, ap, subst}
use Rattle.std.proofs.Math.Seq.{drop-append_seam}
use Rattle.std.proofs.lemmas.List.{drop-drop}
use Rattle.capture.specs.First.{Requests, Message, Refused, IsFirst, RefusesAtHead, RefusesBehindHead}
use Rattle.capture.specs.Message.{IsRequestHeadText}
use Rattle.capture.specs.declared.framing.MessageFault.{MessageFault}
use Rattle.http_wire.specs.Decisions.{FirstsAreOne}
use Rattle.exchange.specs.Aim.{aim_of}
use Rattle.exchange.specs.declared.aim.Aim.{Aim}
use Rattle.exchange.specs.declared.aim.AimFault.{AimFault}
use Rattle.http_head.specs.declared.head.RequestMessage.{RequestMessage}
use Rattle.http_wire.specs.Messages.{IsRequest}
use Rattle.session.specs.Complete.{RequestsAreNotRefused}
use Rattle.session.proofs.ReadLaws.{aims_nowhere, long_isnt_head, one_text, same_aim}

-- a message that was read stands first in its bytes
unfoldable pub stands_first : (wire : List ℕ) (message : RequestMessage) (is : IsRequest wire message)
    → IsFirst Requests true wire (Message (is.skipped + length message.head.text + length is.wire))
stands_first wire message is =
    let rest : drop (is.skipped + length message.head.text) wire ≡ is.wire =
    sym (drop-drop (length message.head.text) is.skipped wire) ∙ ap (drop (length message.head.text)) is.composed
    ∙ drop-append_seam message.head.text is.wire in
    record {
      framing = message.framing;
      end = is.skipped + length message.head.text;
      rest = is.wire;
      body_len = length is.wire;
      head = record { skipped = is.skipped; text = message.head.text; front = is.front; tells = is.tells; end_is = refl; rest_is = sym rest };
      body = is.body;
      used_is = refl;
    }

message_isnt_refused : {P : Type 0} (used : ℕ) (fault : MessageFault) → Message used ≡ Refused fault → P
message_isnt_refused used fault e = let bad : ⊥ = cc in absurd bad

pub somewhere : {P : Type 0} (a b : Result Aim AimFault) (aim : Aim) (fault : AimFault) → a ≡ Ok aim → b ≡ Err fault → a ≡ b → P
somewhere a b aim fault e f same = let bad : ⊥ = cc in absurd bad

pub refused_first : (wire : List ℕ) (fault : MessageFault) → RefusesAtHead Requests wire fault ⊎ RefusesBehindHead Requests wire fault
    → IsFirst Requests true wire (Refused fault)
refused_first wire fault (inl at) = inr (inr (inl at))
refused_first wire fault (inr behind) = inr (inr (inr behind))

pub not_refused : FirstsAreOne → RequestsAreNotRefused
not_refused one site wire message aim None refusal asked (inl (long, e)) = long_isnt_head wire message.head.text asked.is.skipped long asked.is.front
not_refused one site wire message aim None refusal asked (inr (none, e)) =
    let same : message.head.text ≡ none.text = one_text wire message.head.text none.text asked.is.skipped none.skipped asked.is.front none.front in
    none.none asked.is.holds.0 (subst (λ (t : List ℕ). IsRequestHeadText t asked.is.holds.0) same asked.is.holds.1.reads)
not_refused one site wire message aim (Some head) refusal asked (begins, inl nowhere) =
    let off = aims_nowhere site head refusal nowhere in
    somewhere (aim_of site message.head.method message.head.target) (aim_of site head.method head.target) aim off.0 asked.aimed off.1 (same_aim site wire head message begins asked.is)
not_refused one site wire message aim (Some head) refusal asked (begins, inr wrong) =
    message_isnt_refused _ wrong.0 (one Requests true wire _ _ (stands_first wire message asked.is) (refused_first wire wrong.0 wrong.2))
