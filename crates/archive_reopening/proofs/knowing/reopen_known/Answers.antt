use Rattle.std.proofs.Common.{subst, sym}
use Rattle.std.specs.Prelude.{IfOk}
use Rattle.archive_shelf.specs.declared.depth.Depth.{Depth}
use Rattle.archive_opening.specs.Telling.{MayBeSettled}
use Rattle.archive_volumes.proofs.ChangeLaws.{DiskLaws}
use Rattle.archive_reopening.specs.Known.{IsReopenedKnown, opening_of}
use Rattle.archive_reopening.proofs.KnownLaws.{may_be_settled}
use Rattle.archive_reopening.proofs.ReopenLaws.{known_whole, none_known}
use Rattle.archive_reopening.proofs.knowing.reopen_known.Given.{Over}
use Rattle.archive_reopening.proofs.knowing.reopen_known.Goals as goal

-- what is asked of the disk
disk_laws : (g : Over) → DiskLaws g.D.Disk
disk_laws g = record { earlier = g.met.D.Disk.earlier; now_counts = g.met.D.Disk.now_counts; now_only = g.met.D.Disk.now_only }

pub returns-in-Whole-clause-reopened : goal.returns-in-Whole-clause-reopened
returns-in-Whole-clause-reopened g c =
    subst (λ (depth : Depth). IfOk c.open_whole.result (IsReopenedKnown g.D.Disk (opening_of c.args.disk depth c.args.namespace g.known) c.args.limits)) (sym c.in-Whole.is)
    (known_whole g.D.Disk (disk_laws g) c.args.disk c.args.namespace c.args.limits g.known c.requires.1.1.1.0 c.open_whole.result c.open_whole.ensures.reopened)

pub returns-in-Whole-clause-refused : goal.returns-in-Whole-clause-refused
returns-in-Whole-clause-refused g c =
    none_known g.D.Disk (disk_laws g) c.args.disk c.args.namespace c.args.limits g.known c.requires.1.1.1.0 c.open_whole.result c.open_whole.ensures.refused

pub reopen_told-requires-clause-known : goal.reopen_told-requires-clause-known
reopen_told-requires-clause-known g c =
    subst (MayBeSettled g.D.Disk c.args.disk c.args.namespace) (sym c.told_by-known.ensures)
    (may_be_settled g.D.Disk c.args.disk c.args.namespace g.known c.requires.1.1.1.0 (c.requires.1.1.1.1 c.in-Checkpoints.is))

pub returns-in-Checkpoints-clause-reopened : goal.returns-in-Checkpoints-clause-reopened
returns-in-Checkpoints-clause-reopened g c =
    subst (λ (depth : Depth). IfOk c.reopen_told.result (IsReopenedKnown g.D.Disk (opening_of c.args.disk depth c.args.namespace g.known) c.args.limits))
    (sym c.in-Checkpoints.is) (rw c.told_by-known.ensures at c.reopen_told.ensures.reopened)
