use Rattle.std.proofs.Common.{sym, ◌∙◌, arith}
use Rattle.http_head.proofs.ParseLaws.{not_response_behind_line_end, spans_response, not_response_of_other, not_response_without_room}
use Rattle.http_head.proofs.parse.find_response.Goals as goal
use Rattle.http_head.proofs.parse.find_response.Goals.{else-spans-text-via-then-spans-text+then-spans-ge-LEAST_STATUS+else-spans-ne-SWITCHING_PROTOCOLS, else-spans-text-via-then-spans-text+else-spans-ge-LEAST_STATUS, else-spans-text-via-else-spans-text}

pub returns-then-line_ends_len-ne0-clause-none : goal.returns-then-line_ends_len-ne0-clause-none
returns-then-line_ends_len-ne0-clause-none c =
    not_response_behind_line_end c.args.text.now
    (λ e. c.if-line_ends_len-ne0.true (c.line_ends_len.ensures.value ∙ e))

pub returns-then-spans-ne-SWITCHING_PROTOCOLS-clause-spans : goal.returns-then-spans-ne-SWITCHING_PROTOCOLS-clause-spans
returns-then-spans-ne-SWITCHING_PROTOCOLS-clause-spans c =
    spans_response c.args.text.now c.parse_response.new.headers c.in-Ok-Complete.spans
    (sym c.line_ends_len.ensures.value ∙ c.if-line_ends_len-ne0.false) c.if-spans-text.true c.if-spans-ge-LEAST_STATUS.true
    c.if-spans-ne-SWITCHING_PROTOCOLS.true (rw c.in-Ok-Complete.field-0-is at c.in-Ok-Complete.ensures.complete)

pub returns-else-spans-text-clause-none : goal.returns-else-spans-text-clause-none
returns-else-spans-text-clause-none c =
    not_response_of_other c.args.text.now _ c.parse_response.new.headers c.in-Ok-Complete.spans
    (rw c.in-Ok-Complete.field-0-is at c.in-Ok-Complete.ensures.found) c.requires
    record {
      no = λ whole low other.
          elim c.else-spans-text.branch [
            | else-spans-text-via-then-spans-text+then-spans-ge-LEAST_STATUS+else-spans-ne-SWITCHING_PROTOCOLS w ↦ other w.if-spans-ne-SWITCHING_PROTOCOLS.false
            | else-spans-text-via-then-spans-text+else-spans-ge-LEAST_STATUS w ↦ absurd (omega (arith, low, w.if-spans-ge-LEAST_STATUS.false))
            | else-spans-text-via-else-spans-text w ↦ w.if-spans-text.false whole
          ];
    }

pub returns-in-Err-clause-none : goal.returns-in-Err-clause-none
returns-in-Err-clause-none c =
    not_response_without_room c.args.text.now _ c.in-Err.ensures.no_room c.requires
