use Rattle.std.proofs.Common.{◌+◌, ◌∙◌, ap, drop, length, arith}
use Rattle.record_opening.proofs.RecordEnds.{behind_mark, ends_behind, number_ends, number_is, number_split, record_tells, rest_behind}
use Rattle.record_opening.proofs.cut.behind_record.Goals as goal

pub returns-in_err-told-clause-behind : goal.returns-in_err-told-clause-behind
returns-in_err-told-clause-behind c = λ rest is.
    absurd (c.in_err-told.ensures.behind (behind_mark is.block rest) (record_tells c.args.bytes.now rest is))

pub returns-in_err-digits-clause-behind : goal.returns-in_err-digits-clause-behind
returns-in_err-digits-clause-behind c = λ rest is.
    let bytes = c.args.bytes.now in
    let told = c.in_ok-told.ensures.behind (behind_mark is.block rest) (record_tells bytes rest is) in
    absurd (number_ends bytes rest is c.in_ok-told.told.now told c.in_err-digits.ensures.none)

pub returns-in_err-len-clause-behind : goal.returns-in_err-len-clause-behind
returns-in_err-len-clause-behind c = λ rest is.
    let bytes = c.args.bytes.now in
    let told = c.in_ok-told.ensures.behind (behind_mark is.block rest) (record_tells bytes rest is) in
    let split = number_split bytes rest is c.in_ok-told.told.now c.in_ok-digits.digits.now c.in_ok-digits.end.now told c.in_ok-digits.ensures.some in
    absurd (c.in_err-len.ensures.none (length is.block) is.small split.0)

pub returns-in_err-room-clause-behind : goal.returns-in_err-room-clause-behind
returns-in_err-room-clause-behind c = λ rest is.
    let bytes = c.args.bytes.now in
    let told = c.in_ok-told.ensures.behind (behind_mark is.block rest) (record_tells bytes rest is) in
    let split = number_split bytes rest is c.in_ok-told.told.now c.in_ok-digits.digits.now c.in_ok-digits.end.now told c.in_ok-digits.ensures.some in
    absurd (omega (arith, ap length split.1, ends_behind is.block rest, c.in_err-room.ensures))

pub returns-then-len-room-clause-behind : goal.returns-then-len-room-clause-behind
returns-then-len-room-clause-behind c = λ rest is.
    let bytes = c.args.bytes.now in
    let told = c.in_ok-told.ensures.behind (behind_mark is.block rest) (record_tells bytes rest is) in
    let split = number_split bytes rest is c.in_ok-told.told.now c.in_ok-digits.digits.now c.in_ok-digits.end.now told c.in_ok-digits.ensures.some in
    let len = number_is bytes rest is c.in_ok-digits.digits.now c.in_ok-len.len split.0 c.in_ok-len.ensures.some.0 c.in_ok-len.ensures.some.1 in
    absurd (omega (arith, ap length split.1, ends_behind is.block rest, c.in_ok-room.ensures, len, c.if-len-room.true))

pub returns-clause-behind : goal.returns-clause-behind
returns-clause-behind c = λ rest is.
    let bytes = c.args.bytes.now in
    let told = c.in_ok-told.ensures.behind (behind_mark is.block rest) (record_tells bytes rest is) in
    let split = number_split bytes rest is c.in_ok-told.told.now c.in_ok-digits.digits.now c.in_ok-digits.end.now told c.in_ok-digits.ensures.some in
    let len = number_is bytes rest is c.in_ok-digits.digits.now c.in_ok-len.len split.0 c.in_ok-len.ensures.some.0 c.in_ok-len.ensures.some.1 in
    c.split_at.ensures.back ∙ ap (drop (c.in_ok-len.len + 8)) split.1 ∙ rest_behind is.block rest (c.in_ok-len.len + 8) (omega (arith, len))
