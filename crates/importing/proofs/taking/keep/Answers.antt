-- A capture stands behind one that was refused, or is stored.
use Rattle.importing.proofs.KeepingLaws.{keeps_past}
use Rattle.importing.proofs.taking.keep.Goals as goal

pub returns-in-Some-clause-keeps : goal.returns-in-Some-clause-keeps
returns-in-Some-clause-keeps g c was takens k =
    keeps_past g.S.Finder.alone takens c.args.tally.now.stored (g.S.Finder.told was) (g.S.Finder.told c.args.shelf.now) c.args.taken.now _ c.args.tally.now.refused
    c.in-Some.is k
