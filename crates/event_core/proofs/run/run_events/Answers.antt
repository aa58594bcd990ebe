-- The run begins in the state that is named, if one is.
use Rattle.std.proofs.Common.{subst, sym, ◌∙◌}
use Rattle.disk_model.specs.contracts.memory_disk.MemoryDiskDisk.TheImpl.{ghosts}
use Rattle.std.specs.Prelude.{IsTrue, Some, is_some}
use Rattle.archive_core.specs.Told.{told_of}
use Rattle.archive_opening.specs.Telling.{MayBeSettled}
use Rattle.event_core.proofs.OpenLaws.{first_ends, first_runs, first_stands, may_be_first}
use Rattle.event_core.specs.Running.{IsRun, first_book}
use Rattle.event_core.proofs.run.run_events.Goals as goal

pub open-requires-clause-known : goal.open-requires-clause-known
open-requires-clause-known g c =
    subst (MayBeSettled ghosts c.args.disk (Some c.args.namespace)) (sym c.told_by-first.ensures)
    (may_be_first c.args.disk c.args.namespace c.args.limits g.start c.requires.1.1.1)

pub run_all-requires-clause-stands : goal.run_all-requires-clause-stands
run_all-requires-clause-stands g c =
    rw c.told_by-first.ensures
    (first_stands c.args.disk c.args.namespace c.args.limits g.start c.requires.1.1.1 c.in-Ok.archive (rw c.told_by-first.ensures at c.in-Ok.ensures.reopened))

pub returns-in-Ok-clause-runs : goal.returns-in-Ok-clause-runs
returns-in-Ok-clause-runs g c =
    first_runs c.args.disk c.args.namespace c.args.limits g.start c.requires.1.1.1 c.in-Ok.archive (rw c.told_by-first.ensures at c.in-Ok.ensures.reopened)
    (λ first. IsRun c.args.limits first c.args.events.now c.run_all.result) (rw c.told_by-first.ensures at c.run_all.ensures.runs)

pub returns-clause-runs : goal.returns-clause-runs
returns-clause-runs g c =
    first_ends c.args.disk c.args.namespace c.args.limits g.start c.requires.1.1.1 c.args.events.now c.of.result c.in-Err.fault c.in-Err.disk
    (rw c.told_by-first.ensures at c.in-Err.ensures.refused) (c.of.ensures ∙ c.new.ensures.items)
