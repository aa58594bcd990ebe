-- The counted folder has what was found, and missing checkpoints.
use Rattle.std.proofs.Common.{sym, subst}
use Rattle.std.proofs.lemmas.Result.{IfOk-weaker}
use Rattle.disk_model.specs.Image.{Image}
use Rattle.folder_model.specs.Folder.{contents_of}
use Rattle.folder_model.specs.Seen.{IsSeen}
use Rattle.folder_disk.specs.steps.GapLaws.{only_filled}
use Rattle.folder_disk.proofs.beginning.held_by_counts.Goals as goal

pub returns-in-Ok-open-clause-seen : goal.returns-in-Ok-open-clause-seen
returns-in-Ok-open-clause-seen g c = λ told.
    let counted = g.F.Folder.past c.count_to_write.new.folder in
    IfOk-weaker c.held_and_synced.result _ _
    (λ synced same. (
      contents_of counted,
      only_filled g.N.FileNames.name (g.F.Folder.past c.args.folder) counted (c.count_to_write.ensures.fills told),
      subst (λ (i : Image). IsSeen g.N.FileNames.name (contents_of counted) i) (sym same) (c.in-Ok-open.ensures.seen told),
    ))
    (c.held_and_synced.ensures.same told)
