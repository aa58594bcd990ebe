use Rattle.std.proofs.Common.{arith}
use Rattle.record_opening.proofs.DateFronts.{date_stop, wrong_date}
use Rattle.record_opening.proofs.fields.read_date.Goals as goal

pub returns-then-bytes-len-clause-err : goal.returns-then-bytes-len-clause-err
returns-then-bytes-len-clause-err c = date_stop c.args.bytes.now c.date_len-len.result c.open_form.result c.date_len-len.ensures (omega arith) c.open_form.ensures

pub returns-in-Err-clause-err : goal.returns-in-Err-clause-err
returns-in-Err-clause-err c =
    wrong_date c.args.bytes.now c.split_at.result.0.now c.date_len-len.result c.date_len-len.ensures (omega arith) c.split_at.ensures.front
    c.in-Err.ensures.refused
