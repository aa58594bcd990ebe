-- The files are those that the record, with the change at its end, gives.
use Rattle.std.proofs.Common.{rules, ◌≡◌, [], ◌∷◌, ◌++◌, List, sym, ap, ◌∙◌}
use Rattle.disk_model.specs.Changes.{done, replayed}
use Rattle.disk_model.specs.steps.ChangesLaws.{replayed-push}
use Rattle.disk_model.specs.Image.{Image}
use Rattle.disk_model.specs.declared.change.Change.{Change}
use Rattle.disk_model.proofs.memory_disk.MemoryDisk.keep.Goals as goal

pub invariant_of-self-2 : goal.invariant_of-self-2
invariant_of-self-2 c =
    let files : c.apply_and_keep.new.files ≡ done c.args.change c.self.inside.current = search rules in
    let changes : c.apply_and_keep.new.changes.items ≡ c.self.inside.changes.items ++ c.args.change ∷ [] = search rules in
    files ∙ ap (λ (i : Image). done c.args.change i) c.self.invariant
    ∙ sym (ap (λ (l : List Change). replayed l c.self.inside.first) changes ∙ replayed-push c.self.inside.changes.items c.args.change c.self.inside.first)
