-- One checkpoint more.
use Rattle.std.proofs.Common.{arith}
use Rattle.disk_model.specs.declared.kind.Kind.TheVariants.{Cdxj}
use Rattle.folder_disk.specs.steps.GapLaws.{one_filled, was_none, may_make_stays, one_above}
use Rattle.folder_disk.proofs.gaps.fill_below.Goals as goal

pub returns-in_err-fill_one-clause-fills : goal.returns-in_err-fill_one-clause-fills
returns-in_err-fill_one-clause-fills g c = λ told.
    one_filled g.N.FileNames.name c.loop-file.file c.args.last (g.F.Folder.past c.args.folder.now) (g.F.Folder.past c.loop-file.folder) (g.F.Folder.past c.fill_one.new.folder)
    (omega (arith, c.loop-file-test.true)) c.ranges.last.fits (c.requires.volumes told c.loop-file.file (omega (arith, c.loop-file-test.true))) (c.requires.last told) (c.loop-file.invariant.0 told) (c.fill_one.ensures.makes told)

pub loop-file-preserved : goal.loop-file-preserved
loop-file-preserved g c =
    let name = g.N.FileNames.name in
    let past = g.F.Folder.past in (
      (λ told. one_filled name c.loop-file.file c.args.last (past c.args.folder.now) (past c.loop-file.folder) (past c.fill_one.new.folder)
          (omega (arith, c.loop-file-test.true)) c.ranges.last.fits (c.requires.volumes told c.loop-file.file (omega (arith, c.loop-file-test.true))) (c.requires.last told) (c.loop-file.invariant.0 told) (c.fill_one.ensures.makes told)),
      (λ told. one_above name (past c.fill_one.new.folder) c.loop-file.file
          (λ file below. may_make_stays (name Cdxj c.loop-file.file) (name Cdxj file) (past c.loop-file.folder) (past c.fill_one.new.folder)
          (c.fill_one.ensures.makes told) (c.loop-file.invariant.1 told file below))
          (c.in_ok-fill_one.ensures.there told)),
    )

pub returns-clause-there : goal.returns-clause-there
returns-clause-there g c = λ told.
    let name = g.N.FileNames.name in
    let past = g.F.Folder.past in
    one_above name (past c.loop-file.folder) c.args.last
    (λ file below. c.loop-file.invariant.1 told file (omega (arith, below, c.loop-file-test.false)))
    (λ lacks. c.requires.last told (was_none name (past c.args.folder.now) (past c.loop-file.folder) (name Cdxj c.args.last) (c.loop-file.invariant.0 told) lacks))
