-- The first such byte, or the text's end.
use Rattle.std.proofs.Common.{arith}
use Rattle.html_rewrite.proofs.FirstBytes.{first_is, none_is}
use Rattle.html_rewrite.proofs.bytes.place_of.Goals as goal

pub returns-in-Some-clause-value : goal.returns-in-Some-clause-value
returns-in-Some-clause-value c =
    let found = c.in-Some.ensures in
    first_is c.args.byte c.args.text.now c.in-Some.at found.0.high (λ k h. found.0.before k (omega arith) h) found.1

pub returns-in-None-clause-value : goal.returns-in-None-clause-value
returns-in-None-clause-value c =
    let none = c.in-None.ensures in
    none_is c.args.byte c.args.text.now (λ k h. none k (omega arith) h)
