-- A final response that was read is one to its request.
use Rattle.std.proofs.Common.{◌≡◌, ℕ, ◌≤◌, Bool, true, false, ◌&&◌, cond, eqb, leb, List, [], ◌∷◌, ◌++◌, length, take, drop, Some, refl, sym, ap, subst, ◌∙◌, arith, append-nil}
use Rattle.std.proofs.lemmas.Bool.{le-leb}
use Rattle.std.proofs.lemmas.List.{take_all}
use Rattle.httparse.specs.Grammar.{ResponseHead, print_blank, print_version, print_reason, print_end, print_section, print_response, status_code}
use Rattle.capture.specs.Body.{IsWire}
use Rattle.capture.specs.Head.{Front, line_ends_len, head_end, field_lines, front_by, Head, TooLong}
use Rattle.capture.specs.Message.{IsResponseHeadText, IsShortHead, BeginsWithResponse}
use Rattle.capture.specs.Methods.{asks_for_head}
use Rattle.capture.specs.WellFormed.{IsFinalHead, RespondsTo}
use Rattle.capture.specs.declared.limits.TheConstants.{HEAD_LIMIT, FIELD_LIMIT}
use Rattle.capture.proofs.HeadLaws.{response_heads_end}
use Rattle.http_wire.specs.Messages.{IsResponse}
use Rattle.http_wire.specs.Storing.{ResponsesCanBeStored}
use Rattle.http_wire.proofs.OneHead.{one_parse}
use Rattle.http_wire.proofs.FrontParts.{HeadParts, parts_of_head}

-- ---- a head text begins at once

no_line_ends : (b c : ℕ) (rest : List ℕ) → eqb b 10 ≡ false → eqb b 13 ≡ false → line_ends_len (b ∷ c ∷ rest) ≡ 0
no_line_ends b c rest lf cr = rw (lf, cr) refl

behind_blank : ResponseHead → List ℕ
behind_blank h = print_version h.minor ++ 32 ∷ h.digits ++ print_reason h.reason ++ print_end h.line_end ++ print_section h.fields h.last

at_once : (h : ResponseHead) → h.blank ≡ [] → print_response h ≡ behind_blank h
unfolding print_response behind_blank
at_once h none =
    ap (λ blank. print_blank blank ++ print_version h.minor ++ 32 ∷ h.digits ++ print_reason h.reason ++ print_end h.line_end
    ++ print_section h.fields h.last) none

begins_with_letters : (h : ResponseHead) → line_ends_len (behind_blank h) ≡ 0
unfolding behind_blank
begins_with_letters h =
    no_line_ends 72 84
    (drop 2 (print_version h.minor ++ 32 ∷ h.digits ++ print_reason h.reason ++ print_end h.line_end ++ print_section h.fields h.last)) refl refl

printed : (text : List ℕ) (h : ResponseHead) → IsResponseHeadText text h → text ≡ print_response h
printed text h is = is.reads.1 ∙ append-nil (print_response h)

begins_at_once : (text : List ℕ) (h : ResponseHead) → IsResponseHeadText text h → line_ends_len text ≡ 0
begins_at_once text h is = ap line_ends_len (printed text h is ∙ at_once h is.at_once) ∙ begins_with_letters h

-- ---- it is within the limits also alone

abbrev front_at : ℕ → ℕ → List ℕ → Front
front_at end skipped text =
    cond (leb end HEAD_LIMIT && leb (field_lines (drop skipped text)) FIELD_LIMIT) (Head skipped (drop skipped text)) TooLong

by_tests : (long few : Bool) (text : List ℕ) → long ≡ true → few ≡ true → cond (long && few) (Head 0 text) TooLong ≡ Head 0 text
by_tests true true text long few = refl
by_tests true false text long few = absurd cc
by_tests false few text long is_few = absurd cc

short_alone : (text : List ℕ) (h : ResponseHead) → IsResponseHeadText text h → length text ≤ HEAD_LIMIT
    → leb (field_lines text) FIELD_LIMIT ≡ true → IsShortHead text
short_alone text h is long few =
    let ends_at : head_end text ≡ Some (length text) = response_heads_end text h [] is ∙ ap (λ t. Some (length t)) (sym (printed text h is)) in
    ap (front_by text) ends_at ∙ ap (λ skipped. front_at (length text) skipped (take (length text) text)) (begins_at_once text h is)
    ∙ ap (front_at (length text) 0) (take_all (length text) text (omega arith))
    ∙ by_tests (leb (length text) HEAD_LIMIT) (leb (field_lines text) FIELD_LIMIT) text (le-leb (length text) HEAD_LIMIT long) few

-- ---- it responds

before_wire : (text wire : List ℕ) (h : ResponseHead) → IsResponseHeadText text h → BeginsWithResponse (text ++ wire) h wire
before_wire text wire h is = record {
  reads = (is.reads.0, ap (λ t. t ++ wire) (printed text h is));
  at_once = is.at_once;
  status = is.status;
  no_switch = is.no_switch;
}

pub responses_can_be_stored : ResponsesCanBeStored
responses_can_be_stored received method one final = record { responds = by_cut received.cut refl; short = omega (arith, parts.short) }
  where
    response : IsResponse (asks_for_head method) one.0 received
    response = one.1

    parts : HeadParts one.0 response.skipped received.head.text
    parts = parts_of_head one.0 response.skipped received.head.text response.front

    text : List ℕ
    text = received.head.text

    h : ResponseHead
    h = response.tells.0

    final_head : IsFinalHead text h
    final_head =
        let same = one_parse text h response.holds.0 response.tells.1 response.holds.1.reads in
        record { whole = response.tells.1; final = omega (arith, final, response.holds.1.status, ap status_code same) }

    wire_by : (cut : Bool) → received.cut ≡ cut → IsWire cut received.framing received.wire
    wire_by cut is = subst (λ c. IsWire c received.framing received.wire) is response.wire_is

    by_cut : (cut : Bool) → received.cut ≡ cut → RespondsTo cut method text received.wire
    by_cut false is = record {
      parsed = h;
      framing = received.framing;
      head_is = final_head;
      whole = record { head = before_wire text received.wire h response.tells.1; framed = response.tells.2; body = wire_by false is };
    }
    by_cut true is = record {
      parsed = h;
      framing = received.framing;
      head_is = final_head;
      cut = record {
        head = response.tells.1;
        short = short_alone text h response.tells.1 (omega (arith, parts.short)) parts.few;
        framed = response.tells.2;
        body = wire_by true is;
      };
    }
