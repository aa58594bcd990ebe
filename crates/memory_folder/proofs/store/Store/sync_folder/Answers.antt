-- The entries keep the sync.
use Rattle.std.proofs.Common.{◌≡◌, ◌++◌, ◌∷◌, [], ℕ, List, Option, Some, None, length, take, drop, arith, refl, ap, ◌∙◌, sym, subst}
use Rattle.std.proofs.Math.Seq.{take-append_seam}
use Rattle.memory_folder.proofs.TakingLaws.{length-listed}
use Rattle.folder_model.specs.Folder.{contents_of, MayLeave}
use Rattle.memory_folder.specs.Entry.{Entry, IsPlace, found, changed, with_step, entry_synced, all_listed, left_entries, reading, no_entry}
use Rattle.memory_folder.specs.Past.{Recorded, past_of, all_settled}
use Rattle.memory_folder.proofs.StoreLaws.{moved, is_of-listed}
use Rattle.memory_folder.proofs.store.Store.sync_folder.Goals as goal

pub invariant_of-self : goal.invariant_of-self
invariant_of-self c =
    let new = c.list_all.new.entries in
    let items = c.self.inside.entries.items in
    let listed : new ≡ all_listed c.args.done items = c.list_all.ensures ∙ ap (all_listed c.args.done) c.as_mut_slice.ensures.value in
    let same : c.self.inside.entries.len ≡ length new = omega (arith, c.self.inside.entries.ok.0, ap length listed, length-listed c.args.done items) in
    moved
    (ap (λ (n : ℕ). take n (new ++ drop (length new) items)) same ∙ take-append_seam new (drop (length new) items) ∙ listed)
    refl c.failed_since-self-inside.ensures c.listed.ensures (is_of-listed c.self.inside.entries.items c.self.inside.placed c.self.inside.failed (past_of c.self.inside.past.value) c.args.done c.self.invariant)
