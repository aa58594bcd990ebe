use Rattle.warc_journal.specs.Extents.{warc_files}
use Rattle.checkpoint.specs.Clearing.{sealed_count}
use Rattle.checkpoint.proofs.ClearingLaws.{cleared_by, clears_resting, clears_unsealed}
use Rattle.checkpoint.proofs.clearing.clear_unsealed.Goals as goal

pub returns-in_err-sealed-clause-clears : goal.returns-in_err-sealed-clause-clears
returns-in_err-sealed-clause-clears g c = λ told.
    clears_resting g.D.Disk (sealed_count (warc_files (g.D.Disk.reading c.args.disk.now))) c.args.disk.now c.count_sealed.new.disk
    (c.count_sealed.ensures.rests told)

pub returns-clause-clears : goal.returns-clause-clears
returns-clause-clears g c = λ told.
    clears_unsealed g.D.Disk c.in_ok-sealed.sealed c.args.disk.now c.count_sealed.new.disk c.clear_from.new.disk (c.in_ok-sealed.ensures.sealed told)
    (c.count_sealed.ensures.rests told) (c.clear_from.ensures.clears told)

pub returns-clause-cleared : goal.returns-clause-cleared
returns-clause-cleared g c = λ told.
    cleared_by g.D.Disk c.in_ok-sealed.sealed c.args.disk.now c.count_sealed.new.disk c.clear_from.new.disk (c.in_ok-sealed.ensures.sealed told)
    (c.count_sealed.ensures.rests told) (c.clear_from.ensures.clears told) c.clear_from.result (c.clear_from.ensures.cleared told)
