use Rattle.checkpoint.proofs.PuttingLaws.{only_by, puts_by, written_by}
use Rattle.checkpoint.proofs.file.write_file.Goals as goal

pub returns-clause-written : goal.returns-clause-written
returns-clause-written g c told =
    written_by g.D.Disk c.args.volume c.args.text.now _ _ c.append.result (g.D.Disk.reading c.args.disk.now) (g.D.Disk.reading c.append.new.disk)
    (c.requires.there told) (c.append.ensures.added told (λ e. cc e))

pub returns-clause-only : goal.returns-clause-only
returns-clause-only g c told =
    only_by g.D.Disk c.args.volume c.args.text.now _ _ c.append.result (g.D.Disk.reading c.args.disk.now) (g.D.Disk.images c.args.disk.now) (g.D.Disk.images c.append.new.disk)
    (c.append.ensures.only told (λ e. cc e))

pub returns-clause-puts : goal.returns-clause-puts
returns-clause-puts g c told =
    puts_by g.D.Disk c.args.volume c.args.text.now c.args.disk.now c.append.new.disk (c.append.ensures.leaves told (λ e. cc e)) (c.append.ensures.stays told)
