-- The text is that of the definition, line by line.
use Rattle.std.proofs.Common.{codes, decimal}
use Rattle.httparse.specs.Ascii.{crlf_bytes}
use Rattle.head_lines.specs.Lines.{close_line_where, length_line, head_end}
use Rattle.exchange.proofs.RefusalLaws.{end_is}
use Rattle.exchange.proofs.refusal.put_head_end.Goals as goal

pub returns-clause-text : goal.returns-clause-text
unfolding head_end length_line
returns-clause-text c =
    end_is c.args.out.now.bytes (codes "Content-Length: ") (decimal c.args.len) crlf_bytes (close_line_where c.args.closes)
    c.push_str.new.self.bytes c.put_number.new.out.bytes c.push_str-2.new.self.bytes c.behind_length.result.now
    c.push_str.ensures.bytes c.put_number.ensures.text c.behind_length.ensures.value c.push_str-2.ensures.bytes
