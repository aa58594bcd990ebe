-- The entries keep a cut of nothing.
use Rattle.std.proofs.Common.{◌≡◌, ◌++◌, ◌∷◌, [], ℕ, ◌+◌, List, Option, Some, None, is_some, refl, ap, ◌∙◌, sym, subst}
use Rattle.folder_model.specs.Folder.{did_to}
use Rattle.folder_model.specs.File.{Shortened}
use Rattle.memory_folder.specs.Entry.{Entry, IsPlace, found, changed, with_step, entry_synced, all_listed, left_entries, reading, no_entry}
use Rattle.memory_folder.specs.Past.{past_of, entry_bound}
use Rattle.memory_folder.proofs.StoreLaws.{moved, is_of-shortened_none}
use Rattle.memory_folder.proofs.store.Store.cut_none.Goals as goal

pub invariant_of-self : goal.invariant_of-self
invariant_of-self c =
    moved refl refl refl
    (c.uncut.ensures ∙ ap (λ (es : List Entry). did_to (past_of c.self.inside.past.value) c.args.name.now (Shortened (c.args.len + entry_bound (found es c.args.name.now)) (entry_bound (found es c.args.name.now)))) c.as_slice.ensures.value)
    (is_of-shortened_none c.self.inside.entries.items c.self.inside.placed c.self.inside.failed (past_of c.self.inside.past.value) c.args.name.now c.args.len c.self.invariant)
