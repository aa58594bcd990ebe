use Rattle.std.proofs.Common.{arith}
use Rattle.record_opening.proofs.DateFronts.{few_bytes, fraction_date, whole_date}
use Rattle.record_opening.proofs.fields.date_len.Goals as goal

pub returns-then-bytes-le-SECOND_END : goal.returns-then-bytes-le-SECOND_END
returns-then-bytes-le-SECOND_END c = few_bytes c.args.bytes.now (omega arith)

pub returns-then-bytes-eq90 : goal.returns-then-bytes-eq90
returns-then-bytes-eq90 c = whole_date c.args.bytes.now (omega arith) c.if-bytes-eq90.true

pub returns-else-bytes-eq90 : goal.returns-else-bytes-eq90
returns-else-bytes-eq90 c = fraction_date c.args.bytes.now (omega arith) c.if-bytes-eq90.false
