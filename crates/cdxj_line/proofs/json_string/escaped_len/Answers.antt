use Rattle.std.proofs.Common.{ap, sym, length}
use Rattle.cdxj_line.proofs.Escapes.{short_escape, long_escape, no_escape}
use Rattle.cdxj_line.proofs.json_string.escaped_len.Goals as goal

pub returns-then-letter_of-gt0 : goal.returns-then-letter_of-gt0
returns-then-letter_of-gt0 c = sym (ap length (short_escape c.args.byte c.letter_of.result c.letter_of.ensures c.if-letter_of-gt0.true))

pub returns-then-byte-lt32 : goal.returns-then-byte-lt32
returns-then-byte-lt32 c = sym (ap length (long_escape c.args.byte c.letter_of.result c.letter_of.ensures c.if-letter_of-gt0.false c.if-byte-lt32.true))

pub returns : goal.returns
returns c = sym (ap length (no_escape c.args.byte c.letter_of.result c.letter_of.ensures c.if-letter_of-gt0.false c.if-byte-lt32.false))
