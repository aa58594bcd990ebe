use Rattle.std.proofs.Common.{◌<◌, ◌*◌, ◌+◌, ◌-◌, ◌≡◌, get_or, arith, refl}
use Rattle.cdxj_line.proofs.Numerals.{value_more, value_past}
use Rattle.cdxj_line.proofs.number.value_of.Goals as goal

pub returns-in-None-clause-none : goal.returns-in-None-clause-none
returns-in-None-clause-none c =
    let past : c.loop-digit.value * 10 < 18446744073709551616 → ⊥ = c.in-None.ensures in
    value_past c.args.digits.now c.loop-digit.digit-index c.loop-digit.value (get_or c.args.digits.now c.loop-digit.digit-index 0 - 48)
    18446744073709551616 c.requires c.loop-digit-test.true c.loop-digit.invariant.0 refl (omega (arith, past))

pub returns-in-None-checked_add-clause-none : goal.returns-in-None-checked_add-clause-none
returns-in-None-checked_add-clause-none c =
    let past : c.in-Some.tens + c.from.result < 18446744073709551616 → ⊥ = c.in-None-checked_add.ensures in
    let tens : c.in-Some.tens ≡ c.loop-digit.value * 10 = c.in-Some.ensures.1 in
    value_past c.args.digits.now c.loop-digit.digit-index c.loop-digit.value c.from.result 18446744073709551616 c.requires
    c.loop-digit-test.true c.loop-digit.invariant.0 c.from.ensures (omega (arith, past, tens))

pub loop-digit-preserved : goal.loop-digit-preserved
loop-digit-preserved c =
    let next : c.in-Some-checked_add.next ≡ c.in-Some.tens + c.from.result = c.in-Some-checked_add.ensures.1 in
    let tens : c.in-Some.tens ≡ c.loop-digit.value * 10 = c.in-Some.ensures.1 in
    let more = value_more c.args.digits.now c.loop-digit.digit-index c.loop-digit.value c.from.result c.requires
    c.loop-digit-test.true c.loop-digit.invariant.0 c.from.ensures in
    (omega (arith, next, tens, more), omega (arith, next, c.in-Some-checked_add.ensures.0))

pub returns-clause-fits : goal.returns-clause-fits
returns-clause-fits c = c.loop-digit.invariant.1
