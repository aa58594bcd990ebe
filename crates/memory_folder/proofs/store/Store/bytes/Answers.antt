-- The entry has what reads find.
use Rattle.std.proofs.Common.{◌≡◌, ◌++◌, ◌∷◌, [], ℕ, List, Option, Some, None, is_some, get_or, refl, ap, ◌∙◌, sym, subst}
use Rattle.std.proofs.lemmas.Result.{IfOk-weaker}
use Rattle.folder_model.specs.Folder.{contents_of, MayLeave}
use Rattle.memory_folder.specs.Entry.{Entry, IsPlace, found, changed, with_step, entry_synced, all_listed, left_entries, reading, no_entry}
use Rattle.memory_folder.specs.Past.{Recorded, past_of, all_settled}
use Rattle.memory_folder.proofs.StoreLaws.{found_at}
use Rattle.memory_folder.proofs.store.Store.bytes.Goals as goal

pub returns-in-Some : goal.returns-in-Some
returns-in-Some c =
    let es = c.self.inside.entries.items in
    let place : IsPlace es c.args.name.now c.in-Some.i = subst (λ (e : List Entry). IsPlace e c.args.name.now c.in-Some.i) c.as_slice-entries.ensures.value c.in-Some.ensures.place in
    let there : contents_of (past_of c.args.self.now) c.args.name.now ≡ Some (reading (get_or es c.in-Some.i no_entry)) =
    subst (λ (r : Recorded). contents_of (past_of r) c.args.name.now ≡ Some (reading (get_or es c.in-Some.i no_entry))) c.self.view_is
    (found_at es c.self.inside.placed c.self.inside.failed (past_of c.self.inside.past.value) c.args.name.now c.in-Some.i c.self.invariant place) in
    IfOk-weaker c.bytes_at.result _ _
    (λ bytes is. there ∙ ap (λ (e : List Entry). Some (reading (get_or e c.in-Some.i no_entry))) (sym c.as_slice-entries.ensures.value) ∙ ap (λ (xs : List ℕ). Some xs) (sym is))
    c.bytes_at.ensures
