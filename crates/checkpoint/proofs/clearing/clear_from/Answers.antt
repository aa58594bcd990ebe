use Rattle.std.proofs.Common.{◌∙◌, arith}
use Rattle.disk_model.specs.declared.kind.Kind.TheVariants.{Cdxj}
use Rattle.checkpoint.proofs.ClearingLaws.{cleared_all, cleared_then, clears_none, clears_then}
use Rattle.checkpoint.proofs.clearing.clear_from.Goals as goal

pub volumes-init : goal.volumes-init
volumes-init g c = record {
  clears = λ told. clears_none g.D.Disk c.args.first c.args.disk.now c.files.new.self c.files.ensures.time c.files.ensures.crash (c.files.ensures.reading told);
  cleared = λ told image left volume le less. absurd (omega (arith, le, less));
  from = omega arith;
  faults = c.in_ok-count.ensures.faults.steady;
}

pub returns-in_err-clear_file-clause-clears : goal.returns-in_err-clear_file-clause-clears
returns-in_err-clear_file-clause-clears g c = λ told.
    let so_far = c.volumes.invariant.clears told in
    clears_then g.D.Disk c.args.first g.met.D.Disk.now_counts g.met.D.Disk.now_only c.volumes.volume c.volumes.invariant.from
    c.args.disk.now c.volumes.disk c.clear_file.new.disk
    (omega (arith, c.volumes-test.true, c.in_ok-count.ensures.count told, so_far.made_none)) so_far (c.clear_file.ensures.puts told)

pub volumes-preserved : goal.volumes-preserved
volumes-preserved g c = record {
  clears = λ told.
      let so_far = c.volumes.invariant.clears told in
      clears_then g.D.Disk c.args.first g.met.D.Disk.now_counts g.met.D.Disk.now_only c.volumes.volume c.volumes.invariant.from
      c.args.disk.now c.volumes.disk c.clear_file.new.disk
      (omega (arith, c.volumes-test.true, c.in_ok-count.ensures.count told, so_far.made_none)) so_far (c.clear_file.ensures.puts told);
  cleared = λ told. cleared_then g.D.Disk c.args.first g.met.D.Disk.now_counts g.met.D.Disk.now_only c.volumes.volume c.volumes.invariant.from
      c.volumes.disk c.clear_file.new.disk (c.volumes.invariant.cleared told) (c.clear_file.ensures.puts told) (c.in_ok-clear_file.ensures.cleared told);
  from = omega (arith, c.volumes.invariant.from);
  faults = c.in_ok-clear_file.ensures.faults.steady ∙ c.volumes.invariant.faults;
}

pub returns-clause-cleared : goal.returns-clause-cleared
returns-clause-cleared g c = λ told.
    cleared_all g.D.Disk c.args.first c.args.disk.now c.volumes.disk c.volumes.volume
    (λ image left. g.met.D.Disk.no_more_files c.volumes.disk image Cdxj left)
    (omega (arith, c.volumes-test.false, c.in_ok-count.ensures.count told)) (c.volumes.invariant.clears told) (c.volumes.invariant.cleared told)
