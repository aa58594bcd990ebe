-- The entries keep a write of nothing.
use Rattle.std.proofs.Common.{◌≡◌, ◌++◌, ◌∷◌, [], ℕ, List, Option, Some, None, is_some, refl, ap, ◌∙◌, sym, subst}
use Rattle.folder_model.specs.Folder.{contents_of, MayLeave}
use Rattle.memory_folder.specs.Entry.{Entry, IsPlace, found, changed, with_step, entry_synced, all_listed, left_entries, reading, no_entry}
use Rattle.memory_folder.specs.Past.{Recorded, past_of, all_settled}
use Rattle.memory_folder.proofs.StoreLaws.{moved, is_of-wrote_none}
use Rattle.memory_folder.proofs.store.Store.write_none.Goals as goal

pub invariant_of-self : goal.invariant_of-self
invariant_of-self c = moved refl refl refl c.wrote.ensures (is_of-wrote_none c.self.inside.entries.items c.self.inside.placed c.self.inside.failed (past_of c.self.inside.past.value) c.args.name.now c.args.at c.args.many c.self.invariant)
