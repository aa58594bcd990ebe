-- The text is that of the definition, line by line.
use Rattle.std.proofs.Common.{◌≡◌, ◌∷◌, [], ◌++◌, codes, decimal, ◌∙◌, ap}
use Rattle.httparse.specs.Ascii.{crlf_bytes, space}
use Rattle.head_lines.specs.Lines.{status_line, type_line}
use Rattle.head_lines.specs.Statuses.{reason_phrase, status_code}
use Rattle.exchange.specs.Refusals.{refusal_start, refusal_status}
use Rattle.exchange.proofs.RefusalLaws.{start_is}
use Rattle.exchange.proofs.refusal.start_of.Goals as goal

pub returns-clause-text : goal.returns-clause-text
unfolding refusal_start status_line type_line
returns-clause-text c =
    let status = refusal_status c.args.refusal.now in
    let number : c.from.result ≡ status_code status = c.from.ensures ∙ c.code.ensures ∙ ap status_code c.status_of-status.ensures in
    let reason : c.reason_of.result.now ≡ reason_phrase status = c.reason_of.ensures.value ∙ ap reason_phrase c.status_of-status.ensures in
    start_is (codes "HTTP/1.1 ") (decimal (status_code status)) (space ∷ []) (reason_phrase status) crlf_bytes (codes "Content-Type: text/plain" ++ crlf_bytes)
    c.new-out.result.bytes c.push_str.new.self.bytes c.put_number.new.out.bytes c.push_str-2.new.self.bytes c.push_str-3.new.self.bytes c.push_str-4.new.self.bytes
    c.new-out.ensures c.push_str.ensures.bytes (c.put_number.ensures.text ∙ ap (λ n. c.push_str.new.self.bytes ++ decimal n) number) c.push_str-2.ensures.bytes
    (c.push_str-3.ensures.bytes ∙ ap (λ t. c.push_str-2.new.self.bytes ++ t) reason) c.push_str-4.ensures.bytes
