use Rattle.std.proofs.Common.{◌++◌, ◌∙◌, ap, sym}
use Rattle.std.proofs.lemmas.Result.{on_ok_weaker}
use Rattle.cdxj_line.proofs.Escapes.{short_escape, long_escape, no_escape}
use Rattle.cdxj_line.proofs.json_string.put_escaped_byte.Goals as goal

pub returns-then-letter-gt0 : goal.returns-then-letter-gt0
returns-then-letter-gt0 c =
    on_ok_weaker c.put_all.result (λ put. put ∙ ap (λ text. c.args.out.now.items ++ text) (sym (short_escape c.args.byte c.letter_of-letter.result c.letter_of-letter.ensures c.if-letter-gt0.true))) c.put_all.ensures

pub returns-then-byte-lt32 : goal.returns-then-byte-lt32
returns-then-byte-lt32 c =
    let escape = long_escape c.args.byte c.letter_of-letter.result c.letter_of-letter.ensures c.if-letter-gt0.false c.if-byte-lt32.true in
    on_ok_weaker c.put_all-then-byte-lt32.result (λ put. cc (put, escape, c.hex_digit-high.ensures, c.hex_digit-low.ensures)) c.put_all-then-byte-lt32.ensures

pub returns : goal.returns
returns c = c.in_ok-push.ensures.items ∙ ap (λ text. c.args.out.now.items ++ text) (sym (no_escape c.args.byte c.letter_of-letter.result c.letter_of-letter.ensures c.if-letter-gt0.false c.if-byte-lt32.false))
