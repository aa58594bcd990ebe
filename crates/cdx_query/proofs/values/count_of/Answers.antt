use Rattle.std.proofs.Common.{arith}
use Rattle.cdx_query.proofs.ValueLemmas.{same_count}
use Rattle.cdx_query.proofs.values.count_of.Goals as goal

pub returns-then-count-lt1-clause-bad : goal.returns-then-count-lt1-clause-bad
returns-then-count-lt1-clause-bad c = λ _ count is. let same = same_count c.args.digits.now c.in-Some.count count c.in-Some.ensures is in omega (arith, same, is.from)

pub returns-then-count-gt-MOST-clause-bad : goal.returns-then-count-gt-MOST-clause-bad
returns-then-count-gt-MOST-clause-bad c = λ _ count is. let same = same_count c.args.digits.now c.in-Some.count count c.in-Some.ensures is in omega (arith, same, is.to)
