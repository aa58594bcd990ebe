-- A request that was read and is aimed at an origin goes there as one whole request.
use Rattle.std.proofs.Common.{◌≡◌, ℕ, ◌^◌, ◌<◌, true, false, List, [], ◌∷◌, length, IsTrue, refl, sym, ap, subst, ◌∙◌, arith, append-nil}
use Rattle.httparse.specs.Grammar.{IsToken, print_request}
use Rattle.capture.specs.Body.{IsBody}
use Rattle.capture.specs.First.{HoldsBody}
use Rattle.capture.specs.Message.{IsWholeRequest}
use Rattle.capture.specs.Payload.{IsPayload}
use Rattle.capture.specs.Target.{is_accepted_uri}
use Rattle.capture.specs.declared.framing.Framing.{Framing}
use Rattle.capture.specs.declared.framing.Framing.TheVariants.{Empty, Length, Chunked, ToEnd}
use Rattle.exchange.specs.Storing.{IsForOrigin, RequestsCanBeStored}
use Rattle.exchange.specs.Texts.{forwarded}
use Rattle.exchange.specs.declared.aim.Target.{Target}
use Rattle.http_head.specs.declared.head.RequestMessage.{RequestMessage}
use Rattle.exchange.proofs.AimedTargets.{IsAimedAt, accepted, aimed_at}
use Rattle.http_wire.proofs.FrontParts.{parts_of_head}
use Rattle.exchange.proofs.HostBytes.{port_has_16_bits}
use Rattle.exchange.proofs.SentFields.{head_sent, parts_of, path_fits, sent_head, sent_method, sent_text}
use Rattle.exchange.proofs.SentFraming.{framed_as_sent, framing_sent}
use Rattle.exchange.proofs.SentLengths.{forwarded_fits, head_room, payload_within}

no_bytes : (s : List ℕ) → length s ≡ 0 → s ≡ []
no_bytes [] e = refl
no_bytes (b ∷ s) e = absurd (omega (arith, e))

-- the payload is the body that goes on
body_sent : (framing : Framing) (wire payload : List ℕ) → HoldsBody framing true wire (length wire) → IsPayload false framing wire payload
    → IsBody (framing_sent framing payload) payload
body_sent Empty wire payload holds is = no_bytes payload (omega (arith, holds, ap length is))
body_sent (Length n) wire payload holds is = refl
body_sent Chunked wire payload holds is = refl
body_sent ToEnd wire payload holds is = refl

whole_sent : (message : RequestMessage) (target : Target) (aimed : IsForOrigin message target) → IsAimedAt message.head.method message.head.target target
    → IsWholeRequest (forwarded message target) (sent_head message.head.method (parts_of message) target) (framing_sent message.framing message.payload) message.payload
whole_sent message target aimed at =
    let of = aimed.request.holds.1 in
    let named : IsToken message.head.method = subst IsToken (sym of.method) of.reads.reads.0.method in
    let short = payload_within message.framing aimed.request.wire message.payload aimed.request.body aimed.request.payload in
    record {
      head = record {
        reads = (
          head_sent message aimed.request.holds.0.fields target named of.reads.reads.0.fields of.fields (omega (arith, short)) at,
          sent_text message target,
        );
        at_once = unfold sent_head in refl;
      };
      framed = framed_as_sent message.head.method message.framing message.payload (parts_of message).minor (parts_of message).fields target (omega (arith, short));
      body = body_sent message.framing aimed.request.wire message.payload aimed.request.body aimed.request.payload;
    }

pub requests_can_be_stored : RequestsCanBeStored
requests_can_be_stored message target aimed =
    let request = aimed.request in
    let h = request.holds.0 in
    let of = request.holds.1 in
    let at = aimed_at aimed.site message.head.method message.head.target target aimed.aim in
    let parts = parts_of_head aimed.stream request.skipped message.head.text request.front in
    let printed = ap length (of.reads.reads.1 ∙ append-nil (print_request h)) in
    let uri = ap length at.uri_is in
    record {
      uri = at.uri_is;
      accepted = subst (λ u. IsTrue (is_accepted_uri u)) (sym at.uri_is) (accepted message.head.method message.head.target target at);
      whole = record {
        head = sent_head message.head.method (parts_of message) target;
        framing = framing_sent message.framing message.payload;
        wire = message.payload;
        whole = whole_sent message target aimed at;
        named = sent_method message.head.method (parts_of message) target;
      };
      short_uri = omega (arith, uri, ap length of.target, printed, parts.short, head_room h);
      short = forwarded_fits message target h (record {
        method = of.method;
        fields = of.fields;
        head = omega (arith, printed, parts.short);
        path = omega (arith, ap length at.path_is, path_fits message.head.method message.head.target, ap length of.target);
        port = subst (λ n. n < 2 ^ 16) (sym at.port_is) (port_has_16_bits message.head.target at.url at.parses);
        host = aimed.host;
        payload = payload_within message.framing request.wire message.payload request.body request.payload;
      });
    }
