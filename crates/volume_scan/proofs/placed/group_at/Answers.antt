use Rattle.std.proofs.Common.{sym, subst}
use Rattle.volume_scan.specs.Scannings.{CountsDisk}
use Rattle.warc_journal.specs.Journals.{disk_of}
use Rattle.volume_scan.proofs.placed.group_at.Goals as goal

pub returns-clause-faults : goal.returns-clause-faults
returns-clause-faults g c =
    let before = g.D.Disk.faults (disk_of c.args.journal.now) in
    subst (λ now. CountsDisk before now c.group_in.result) (sym c.in_ok-read.ensures.faults.steady) (c.group_in.ensures.still before)
