-- The entries keep the sync.
use Rattle.std.proofs.Common.{◌≡◌, ◌++◌, ◌∷◌, [], ℕ, List, Option, Some, None, is_some, refl, ap, ◌∙◌, sym, subst}
use Rattle.folder_model.specs.Folder.{contents_of, MayLeave}
use Rattle.memory_folder.specs.Entry.{Entry, IsPlace, found, changed, with_step, entry_synced, all_listed, left_entries, reading, no_entry}
use Rattle.memory_folder.specs.Past.{Recorded, past_of, all_settled}
use Rattle.memory_folder.proofs.StoreLaws.{moved, is_of-placed}
use Rattle.memory_folder.proofs.store.Store.sync_around.Goals as goal

pub invariant_of-self : goal.invariant_of-self
invariant_of-self c = moved refl c.after_sync-self-inside.ensures c.failed_since-self-inside.ensures c.placed.ensures (is_of-placed c.self.inside.entries.items c.self.inside.placed c.self.inside.failed (past_of c.self.inside.past.value) c.args.done c.self.invariant)
