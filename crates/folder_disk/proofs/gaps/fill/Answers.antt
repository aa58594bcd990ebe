-- Where the last one isn't there nothing was done.
use Rattle.folder_disk.specs.steps.GapLaws.{none_filled}
use Rattle.folder_disk.proofs.gaps.fill.Goals as goal

pub returns-in_err-check_one-clause-fills : goal.returns-in_err-check_one-clause-fills
returns-in_err-check_one-clause-fills g c = λ told. none_filled g.N.FileNames.name (g.F.Folder.past c.args.folder.now) (g.F.Folder.past c.check_one.new.folder) (c.check_one.ensures.past told)
