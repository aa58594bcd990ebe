use Rattle.archive_reopening.proofs.KnownLaws.{opened_at, refused_at}
use Rattle.archive_reopening.proofs.knowing.reopen.Goals as goal

pub reopen_known-requires : goal.reopen_known-requires
reopen_known-requires g c = λ κs within. (within, (c.requires.uuid, (c.requires.limits, (tt, λ by_checkpoints. tt))))

pub returns-clause-reopened : goal.returns-clause-reopened
returns-clause-reopened g c =
    opened_at g.D.Disk c.args.disk c.args.namespace c.args.limits c.args.depth c.reopen_known.result c.reopen_known.ensures.reopened c.reopen_known.ensures.whole

pub returns-clause-refused : goal.returns-clause-refused
returns-clause-refused g c =
    refused_at g.D.Disk c.args.disk c.args.namespace c.args.depth c.reopen_known.result c.reopen_known.ensures.refused c.reopen_known.ensures.whole_refused
