use Rattle.std.proofs.Common.{◌<◌, ◌≤◌, length, arith}
use Rattle.std.proofs.lemmas.Bool.{ltb-true}
use Rattle.volume_scan.proofs.Judging.{committed_there, committed_unless_tail, group_there, group_too_long, no_group_there, tail_there}
use Rattle.volume_scan.proofs.next.judge_group.Goals as goal

pub returns-in-Ok-clause-next : goal.returns-in-Ok-clause-next
returns-in-Ok-clause-next c rest long same =
    group_there c.args.bytes.now rest c.args.room long same c.args.namespace.now c.args.number c.in-Ok.read.group c.in-Ok.ensures.ok

pub returns-in-Err-Unfinished-clause-next : goal.returns-in-Err-Unfinished-clause-next
returns-in-Err-Unfinished-clause-next c rest long same = tail_there c.args.bytes.now rest c.args.room long same (rw c.in-Err-Unfinished.field-0-is at c.in-Err-Unfinished.ensures.none)

pub returns-in-Err-Damaged-clause-next : goal.returns-in-Err-Damaged-clause-next
returns-in-Err-Damaged-clause-next c rest long same =
    let tells = rw c.in-Err-Damaged.field-0-is at c.in-Err-Damaged.ensures.none in (
      committed_there c.args.bytes.now rest c.args.room long same tells.0,
      no_group_there c.args.bytes.now rest c.args.room long same c.args.namespace.now c.args.number tells.1,
    )

pub returns-else-n-room-clause-next : goal.returns-else-n-room-clause-next
returns-else-n-room-clause-next c rest long same =
    let tells = rw c.in-Err-Need.field-0-is at c.in-Err-Need.ensures.none in
    let past : c.args.room < c.in-Err-Need.n = omega (arith, c.if-n-room.false) in
    let two : 2 ≤ length c.args.bytes.now = omega (arith, c.requires.two, ltb-true (length c.args.bytes.now) c.args.room tells.0) in (
      committed_unless_tail c.args.bytes.now rest c.args.room long same two tells.3,
      group_too_long c.args.bytes.now rest c.args.room long same c.args.namespace.now c.args.number c.in-Err-Need.n tells.2 past,
    )
