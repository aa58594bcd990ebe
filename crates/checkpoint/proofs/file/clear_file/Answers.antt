use Rattle.std.proofs.Common.{[]}
use Rattle.checkpoint.proofs.PuttingLaws.{only_by, puts_none_of}
use Rattle.checkpoint.proofs.file.clear_file.Goals as goal

pub returns-clause-cleared : goal.returns-clause-cleared
returns-clause-cleared g c told =
    only_by g.D.Disk c.args.volume [] _ _ c.mend.result (g.D.Disk.reading c.args.disk.now) (g.D.Disk.images c.args.disk.now) (g.D.Disk.images c.mend.new.disk)
    (c.mend.ensures.only told)

pub returns-clause-puts : goal.returns-clause-puts
returns-clause-puts g c told =
    puts_none_of g.D.Disk c.args.volume c.args.disk.now c.mend.new.disk (c.mend.ensures.leaves told) (c.mend.ensures.stays told)
