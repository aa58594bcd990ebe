use Rattle.std.proofs.Common.{inr, ap, Err, arith}
use Rattle.record_opening.proofs.InfoSteps.{asks, front_asks, front_tells, little, tells}
use Rattle.record_opening.proofs.InfoStops.{date_reaches}
use Rattle.record_opening.proofs.scan_info.read_info.Goals as goal

pub returns-in-Err-clause-tells : goal.returns-in-Err-clause-tells
returns-in-Err-clause-tells c =
    front_tells c.args.volume c.args.bytes.now c.in-Err.stop c.args.more c.info_len.result c.answer_to.result c.answer_to.ensures c.requires c.in-Err.ensures.err
    (λ open_. c.in-Err.ensures.ends (ap Err open_)) c.info_len.ensures.value

pub returns-in-Err-clause-asks : goal.returns-in-Err-clause-asks
returns-in-Err-clause-asks c =
    front_asks c.args.volume c.args.bytes.now c.in-Err.stop c.args.more c.info_len.result c.answer_to.result c.answer_to.ensures c.in-Err.ensures.err c.info_len.ensures.value

pub returns-in-Err-clause-little : goal.returns-in-Err-clause-little
returns-in-Err-clause-little c = little c.in-Err.stop c.args.more c.info_len.result c.answer_to.result c.answer_to.ensures c.info_len.ensures.short

pub returns-in-Err-read_namespace-clause-tells : goal.returns-in-Err-read_namespace-clause-tells
returns-in-Err-read_namespace-clause-tells c =
    let front = c.in-Ok.front in
    let none = c.in-Err-read_namespace.ensures.err in
    tells c.args.volume c.args.bytes.now c.in-Err-read_namespace.stop c.args.more c.info_len-len.result c.answer_to-in-Err-read_namespace.result
    c.answer_to-in-Err-read_namespace.ensures c.requires none.refuses
    (λ open_. omega (arith, none.inside open_ front.id, c.info_len-len.ensures.value front.id))
    (date_reaches c.args.volume c.args.bytes.now front.id front.born front.rest.now c.in-Ok.ensures.id c.in-Ok.ensures.ok c.info_len-len.result c.info_len-len.ensures.value)

pub returns-in-Err-read_namespace-clause-asks : goal.returns-in-Err-read_namespace-clause-asks
returns-in-Err-read_namespace-clause-asks c =
    let front = c.in-Ok.front in
    let none = c.in-Err-read_namespace.ensures.err in
    asks c.args.volume c.args.bytes.now c.in-Err-read_namespace.stop c.args.more c.info_len-len.result c.answer_to-in-Err-read_namespace.result
    c.answer_to-in-Err-read_namespace.ensures
    (λ open_. inr (front.born, c.in-Ok.ensures.date, none.ends open_, c.info_len-len.ensures.value))

pub returns-in-Err-read_namespace-clause-little : goal.returns-in-Err-read_namespace-clause-little
returns-in-Err-read_namespace-clause-little c =
    little c.in-Err-read_namespace.stop c.args.more c.info_len-len.result c.answer_to-in-Err-read_namespace.result c.answer_to-in-Err-read_namespace.ensures
    c.info_len-len.ensures.short
