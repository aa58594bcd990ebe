use Rattle.std.proofs.Common.{length, length-drop, ap, arith}
use Rattle.cdxj_line.proofs.Strings.{string_len_behind}
use Rattle.cdxj_line.proofs.members.string_len.Goals as goal

pub returns-clause-value : goal.returns-clause-value
returns-clause-value c =
    string_len_behind c.args.text.now c.split_at.result.1.now c.unmarked_len-front.result c.marked_len.result c.unmarked_len-front.ensures.value c.split_at.ensures.back c.marked_len.ensures.value

pub returns-clause-within : goal.returns-clause-within
returns-clause-within c =
    omega (arith, c.unmarked_len-front.ensures.within, c.marked_len.ensures.within, ap length c.split_at.ensures.back, length-drop c.unmarked_len-front.result c.args.text.now)
