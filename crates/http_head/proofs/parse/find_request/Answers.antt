use Rattle.std.proofs.Common.{sym, ◌∙◌}
use Rattle.http_head.proofs.ParseLaws.{not_request_behind_line_end, spans_request, not_request_of_other_len, not_request_without_room}
use Rattle.http_head.proofs.parse.find_request.Goals as goal

pub returns-then-line_ends_len-ne0-clause-none : goal.returns-then-line_ends_len-ne0-clause-none
returns-then-line_ends_len-ne0-clause-none c =
    not_request_behind_line_end c.args.text.now
    (λ e. c.if-line_ends_len-ne0.true (c.line_ends_len.ensures.value ∙ e))

pub returns-then-spans-text-clause-spans : goal.returns-then-spans-text-clause-spans
returns-then-spans-text-clause-spans c =
    spans_request c.args.text.now c.parse_request.new.headers c.in-Ok-Complete.spans
    (sym c.line_ends_len.ensures.value ∙ c.if-line_ends_len-ne0.false) c.if-spans-text.true
    (rw c.in-Ok-Complete.field-0-is at c.in-Ok-Complete.ensures.complete)

pub returns-else-spans-text-clause-none : goal.returns-else-spans-text-clause-none
returns-else-spans-text-clause-none c =
    not_request_of_other_len c.args.text.now _ c.parse_request.new.headers c.in-Ok-Complete.spans
    (rw c.in-Ok-Complete.field-0-is at c.in-Ok-Complete.ensures.found) c.requires c.if-spans-text.false

pub returns-in-Err-clause-none : goal.returns-in-Err-clause-none
returns-in-Err-clause-none c =
    not_request_without_room c.args.text.now _ c.in-Err.ensures.no_room c.requires
