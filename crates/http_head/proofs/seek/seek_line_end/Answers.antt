use Rattle.std.proofs.Common.{length, sym, arith}
use Rattle.http_head.proofs.SeekLaws.{line_goes_on, line_ends_at}
use Rattle.http_head.proofs.seek.seek_line_end.Goals as goal

pub returns-in-Some-clause-seek : goal.returns-in-Some-clause-seek
returns-in-Some-clause-seek c =
    let found = c.in-Some.ensures in
    sym (line_ends_at c.args.rest.now c.in-Some.at found.0.high (λ k h. found.0.before k (omega arith) h) found.1)

pub returns-in-None-clause-seek : goal.returns-in-None-clause-seek
returns-in-None-clause-seek c =
    let none = c.in-None.ensures in
    sym (line_goes_on c.args.rest.now (length c.args.rest.now) (λ k h. none k (omega arith) h))
