-- The entries keep the write.
use Rattle.std.proofs.Common.{◌≡◌, ◌++◌, ◌∷◌, [], ℕ, List, Option, Some, None, is_some, refl, ap, ◌∙◌, sym, subst}
use Rattle.folder_model.specs.Folder.{contents_of, MayLeave}
use Rattle.memory_folder.specs.Entry.{Entry, IsPlace, found, changed, with_step, entry_synced, all_listed, left_entries, reading, no_entry}
use Rattle.memory_folder.specs.declared.standing.Standing.TheVariants.{Fresh}
use Rattle.memory_folder.specs.declared.step.Step.TheVariants.{Write}
use Rattle.memory_folder.specs.Past.{Recorded, past_of, all_settled}
use Rattle.memory_folder.proofs.StoreLaws.{moved, is_of-wrote}
use Rattle.memory_folder.proofs.store.Store.write.Goals as goal

pub invariant_of-self-2 : goal.invariant_of-self-2
invariant_of-self-2 c =
    let bytes : c.of-copy.result ≡ c.args.bytes.now = c.of-copy.ensures ∙ c.in_ok-from_slice.ensures.items in
    moved (c.in_ok-keep_step.ensures.ok ∙ ap (λ (b : List ℕ). changed (with_step (Write c.args.at b Fresh)) c.args.name.now c.self.inside.entries.items) bytes) refl refl c.wrote.ensures
    (is_of-wrote c.self.inside.entries.items c.self.inside.placed c.self.inside.failed (past_of c.self.inside.past.value) c.args.name.now c.args.at c.args.bytes.now c.args.rest c.self.invariant)
