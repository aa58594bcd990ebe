-- By what holds of each disk's moments.
use Rattle.warc_journal.specs.Laws.{checkpoints_stay}
use Rattle.warc_journal.proofs.laws.checkpoints_stay_beside_texts.Goals as goal

pub returns : goal.returns
returns g c =
    let m = g.met.D.Disk in
    checkpoints_stay g.D.Disk m.now_counts m.now_only
