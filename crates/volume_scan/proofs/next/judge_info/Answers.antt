use Rattle.std.proofs.Common.{◌<◌, ◌≤◌, length, arith}
use Rattle.std.proofs.lemmas.Bool.{ltb-true}
use Rattle.volume_scan.proofs.Judging.{committed_there, committed_unless_tail, info_there, info_too_long, no_info_there, tail_there}
use Rattle.volume_scan.proofs.next.judge_info.Goals as goal

pub returns-in-Info-clause-next : goal.returns-in-Info-clause-next
returns-in-Info-clause-next c rest long same =
    info_there c.args.bytes.now rest c.args.room long same c.args.volume c.in-Info.namespace c.in-Info.born c.in-Info.len c.in-Info.ensures.tells

pub returns-in-Unfinished-clause-next : goal.returns-in-Unfinished-clause-next
returns-in-Unfinished-clause-next c rest long same = tail_there c.args.bytes.now rest c.args.room long same c.in-Unfinished.ensures.tells

pub returns-in-Damaged-clause-next : goal.returns-in-Damaged-clause-next
returns-in-Damaged-clause-next c rest long same = (
  committed_there c.args.bytes.now rest c.args.room long same c.in-Damaged.ensures.tells.0,
  no_info_there c.args.bytes.now rest c.args.room long same c.args.volume c.in-Damaged.ensures.tells.1,
)

pub returns-else-n-room-clause-next : goal.returns-else-n-room-clause-next
returns-else-n-room-clause-next c rest long same =
    let past : c.args.room < c.in-Need.n = omega (arith, c.if-n-room.false) in
    let two : 2 ≤ length c.args.bytes.now = omega (arith, c.requires.two, ltb-true (length c.args.bytes.now) c.args.room c.in-Need.ensures.tells.0) in (
      committed_unless_tail c.args.bytes.now rest c.args.room long same two c.in-Need.ensures.tells.3,
      info_too_long c.args.bytes.now rest c.args.room long same c.args.volume c.in-Need.n c.in-Need.ensures.tells.2 past,
    )
