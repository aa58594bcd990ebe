use Rattle.gated_file.proofs.Mending.{ended}
use Rattle.gated_file.proofs.file.GatedFile.mend.Goals as goal

pub returns-clause-known : goal.returns-clause-known
returns-clause-known g c told clean =
    let d = g.D.Disk in
    ended c.args.self.now (d.reading c.args.disk.now) (d.images c.take_away.new.disk) (d.images c.args.disk.now) (d.reading c.take_away.new.disk) (c.requires.there told)
    (c.in_ok-take_away.ensures.mended told) (c.in_ok-take_away.ensures.only told)
