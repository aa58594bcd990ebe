use Rattle.archive_pieces.proofs.PieceReading.{group_found, no_group_damaged, no_group_end, no_group_longer, no_group_tail}
use Rattle.archive_pieces.proofs.parts.group_in.Goals as goal

pub returns-in-End-clause-none : goal.returns-in-End-clause-none
returns-in-End-clause-none c = no_group_end c.args.namespace.now c.args.number c.args.bytes.now c.in-End.ensures.tells

pub returns-in-Unfinished-clause-none : goal.returns-in-Unfinished-clause-none
returns-in-Unfinished-clause-none c = no_group_tail c.args.namespace.now c.args.number c.args.bytes.now c.in-Unfinished.ensures.tells

pub returns-in-Damaged-clause-none : goal.returns-in-Damaged-clause-none
returns-in-Damaged-clause-none c = no_group_damaged c.args.namespace.now c.args.number c.args.bytes.now c.in-Damaged.ensures.tells.1

pub returns-else-group-bytes-clause-none : goal.returns-else-group-bytes-clause-none
returns-else-group-bytes-clause-none c =
    no_group_longer c.args.namespace.now c.args.number c.args.bytes.now c.in-Group.group c.in-Group.ensures.tells
    c.if-group-bytes.false

pub returns-then-group-bytes-clause-some : goal.returns-then-group-bytes-clause-some
returns-then-group-bytes-clause-some c =
    group_found c.args.namespace.now c.args.number c.args.bytes.now c.in-Group.group c.in-Group.ensures.tells c.if-group-bytes.true
