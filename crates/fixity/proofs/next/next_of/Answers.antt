use Rattle.std.proofs.Common.{arith}
use Rattle.fixity.proofs.Judging.{group_there, none_at_end, none_at_tail, none_there, outline_fits, too_long}
use Rattle.fixity.proofs.next.next_of.Goals as goal

pub returns-in-Ok-clause-next : goal.returns-in-Ok-clause-next
returns-in-Ok-clause-next c = λ rest long same.
    group_there c.args.bytes.now rest c.args.room long same c.args.namespace.now c.args.number c.in-Ok.outline c.in-Ok.ensures.ok

pub returns-in-Ok-clause-fits : goal.returns-in-Ok-clause-fits
returns-in-Ok-clause-fits c = outline_fits c.args.namespace.now c.args.number c.args.bytes.now c.in-Ok.outline c.in-Ok.ensures.ok

pub returns-in-Err-End-clause-next : goal.returns-in-Err-End-clause-next
returns-in-Err-End-clause-next c = λ rest long same.
    none_at_end c.args.bytes.now rest c.args.room long same c.args.namespace.now c.args.number (rw c.in-Err-End.field-0-is at c.in-Err-End.ensures.none)

pub returns-in-Err-Unfinished-clause-next : goal.returns-in-Err-Unfinished-clause-next
returns-in-Err-Unfinished-clause-next c = λ rest long same.
    none_at_tail c.args.bytes.now rest c.args.room long same c.args.namespace.now c.args.number (rw c.in-Err-Unfinished.field-0-is at c.in-Err-Unfinished.ensures.none)

pub returns-in-Err-Damaged-clause-next : goal.returns-in-Err-Damaged-clause-next
returns-in-Err-Damaged-clause-next c = λ rest long same.
    let told = rw c.in-Err-Damaged.field-0-is at c.in-Err-Damaged.ensures.none in
    none_there c.args.bytes.now rest c.args.room long same c.args.namespace.now c.args.number told.1

pub returns-else-n-room-clause-next : goal.returns-else-n-room-clause-next
returns-else-n-room-clause-next c = λ rest long same.
    let told = rw c.in-Err-Need.field-0-is at c.in-Err-Need.ensures.none in
    too_long c.args.bytes.now rest c.args.room long same c.args.namespace.now c.args.number c.in-Err-Need.n told.2 (omega (arith, c.if-n-room.false))

pub returns-then-n-room-clause-fits : goal.returns-then-n-room-clause-fits
returns-then-n-room-clause-fits c =
    let told = rw c.in-Err-Need.field-0-is at c.in-Err-Need.ensures.none in
    (told.1, c.if-n-room.true)
