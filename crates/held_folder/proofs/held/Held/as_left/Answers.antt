-- A folder that tells its past answers the length that is remembered.
use Rattle.std.proofs.Common.{◌∙◌, List, ℕ, length, ap, sym}
use Rattle.folder_model.specs.Folder.{FolderPast, bytes_of}
use Rattle.held_folder.proofs.held.Held.as_left.Goals as goal

pub returns-else-len-one-clause-trusted : goal.returns-else-len-one-clause-trusted
returns-else-len-one-clause-trusted g c = λ told.
    let past : FolderPast = g.F.Folder.past c.args.self.now.timed.folder in
    let is = c.requires told in
    absurd (c.if-len-one.false (c.in-Ok.ensures.length told ∙ ap (λ (n : List ℕ). length (bytes_of past n)) is.named ∙ sym is.len))
