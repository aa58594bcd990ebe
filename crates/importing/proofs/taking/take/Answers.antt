-- A capture, a skip, or nothing.
use Rattle.importing.proofs.KeepingLaws.{keeps_as}
use Rattle.importing.proofs.TakingLaws.{keeps_with}
use Rattle.importing.proofs.taking.take.Goals as goal

pub returns-in-Taken-clause-keeps : goal.returns-in-Taken-clause-keeps
returns-in-Taken-clause-keeps g c was takens k = rw c.in-Taken.is (c.keep.ensures.keeps was takens k)

pub returns-in-Skipped-clause-keeps : goal.returns-in-Skipped-clause-keeps
returns-in-Skipped-clause-keeps g c was takens k =
    rw c.in-Skipped.is
    (keeps_with g.S.Finder.alone takens (g.S.Finder.told was) (g.S.Finder.told c.args.shelf.now) _ _ _ _ c.skip.ensures.same_stored c.skip.ensures.same_refused k)

pub returns-in-PassedOver-clause-keeps : goal.returns-in-PassedOver-clause-keeps
returns-in-PassedOver-clause-keeps g c was takens k =
    rw c.in-PassedOver.is (keeps_as g.S.Finder.alone takens _ _ (g.S.Finder.told was) (g.S.Finder.told c.args.shelf.now) k)
