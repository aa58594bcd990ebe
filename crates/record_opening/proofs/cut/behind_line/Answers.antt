use Rattle.httparse.specs.Ascii.{crlf_bytes}
use Rattle.record_opening.proofs.RecordEnds.{behind_split, line_ends, strips_behind}
use Rattle.record_opening.proofs.cut.behind_line.Goals as goal

pub returns-in_err-end-clause-behind : goal.returns-in_err-end-clause-behind
returns-in_err-end-clause-behind c = λ rest is. absurd (line_ends c.args.bytes.now rest is c.in_err-end.ensures.none)

pub returns-clause-behind : goal.returns-clause-behind
returns-clause-behind c = λ rest is.
    strips_behind crlf_bytes c.in_ok-end.end.now rest c.strip_prefix.result c.strip_prefix.ensures.cases
    (behind_split c.args.bytes.now rest c.in_ok-end.field-0-0.now c.in_ok-end.end.now is c.in_ok-end.ensures.some)
