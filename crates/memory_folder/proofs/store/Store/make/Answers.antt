-- The entries keep the file that was made.
use Rattle.std.proofs.Common.{◌≡◌, ◌++◌, ◌∷◌, [], ℕ, List, Option, Some, None, is_some, refl, ap, ◌∙◌, sym, subst}
use Rattle.folder_model.specs.Folder.{contents_of, MayLeave}
use Rattle.memory_folder.specs.Entry.{Entry, IsPlace, found, changed, with_step, entry_synced, all_listed, left_entries, reading, no_entry}
use Rattle.memory_folder.specs.Past.{Recorded, past_of, all_settled}
use Rattle.memory_folder.proofs.StoreLaws.{moved, is_of-made}
use Rattle.memory_folder.proofs.store.Store.make.Goals as goal

pub invariant_of-self-2 : goal.invariant_of-self-2
invariant_of-self-2 c =
    let new : contents_of (past_of c.self.inside.past.value) c.args.name.now ≡ None = subst (λ (r : Recorded). contents_of (past_of r) c.args.name.now ≡ None) (sym c.self.view_is) c.requires in
    moved (c.in_ok-push.ensures.items ∙ ap (λ (e : Entry). c.self.inside.entries.items ++ e ∷ []) c.in_ok-entry.ensures) refl refl c.made-2.ensures
    (is_of-made c.self.inside.entries.items c.self.inside.placed c.self.inside.failed (past_of c.self.inside.past.value) c.args.name.now new c.self.invariant)
