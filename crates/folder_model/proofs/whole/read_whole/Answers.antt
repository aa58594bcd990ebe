-- One part more was read.
use Rattle.std.proofs.Common.{◌∙◌, ap, take, drop, arith}
use Rattle.std.proofs.lemmas.List.{take-append-le}
use Rattle.folder_model.specs.Folder.{FolderPast, bytes_of}
use Rattle.folder_model.specs.steps.RangeLaws.{read_more}
use Rattle.folder_model.proofs.whole.read_whole.Goals as goal

pub loop-done-preserved : goal.loop-done-preserved
loop-done-preserved g c =
    let n = g.F.Folder.name_of c.args.file.now in (
      grind (arith, c.in_ok-done.ensures.fits, c.loop-done.invariant.0),
      grind (arith, c.in_ok-done.ensures.fits, c.loop-done.invariant.0, c.loop-done.invariant.1),
      λ tells. c.in_ok-done.ensures.past tells ∙ c.loop-done.invariant.2 tells,
      λ tells. read_more (bytes_of (g.F.Folder.past c.args.folder.now) n) c.loop-done.into _ c.args.at c.loop-done.done
          c.in_ok-place.place c.in_ok-done.field-0 c.loop-done.invariant.0 c.in_ok-place.ensures (c.loop-done.invariant.3 tells)
          (take-append-le c.in_ok-done.field-0 c.read_some.new.into _ c.in_ok-done.ensures.fits
          ∙ c.in_ok-done.ensures.gives tells
          ∙ ap (λ (p : FolderPast). take c.in_ok-done.field-0 (drop c.in_ok-place.place (bytes_of p n))) (c.loop-done.invariant.2 tells)),
    )
