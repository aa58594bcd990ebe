use Rattle.command.proofs.BeginningLaws.{opens_no_more, settled_is_kept, stays_kept}
use Rattle.command.proofs.beginning.beginning_keeps_what_is_known.Goals as goal

pub returns-clause-opens : goal.returns-clause-opens
returns-clause-opens g c = opens_no_more g.D.Disk (record { earlier = g.met.D.Disk.earlier; now_counts = g.met.D.Disk.now_counts; now_only = g.met.D.Disk.now_only })

pub returns-clause-stays : goal.returns-clause-stays
returns-clause-stays g c = stays_kept g.D.Disk

pub returns-clause-kept : goal.returns-clause-kept
returns-clause-kept g c = settled_is_kept
