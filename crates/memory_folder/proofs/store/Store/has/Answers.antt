-- A file is there where an entry is.
use Rattle.std.proofs.Common.{◌≡◌, ◌++◌, ◌∷◌, [], ℕ, List, Option, Some, None, is_some, true, false, refl, ap, ◌∙◌, sym, subst}
use Rattle.folder_model.specs.Folder.{contents_of, MayLeave}
use Rattle.memory_folder.specs.Entry.{Entry, IsPlace, found, changed, with_step, entry_synced, all_listed, left_entries, reading, no_entry}
use Rattle.memory_folder.specs.Past.{Recorded, past_of, all_settled}
use Rattle.memory_folder.proofs.StoreLaws.{found_at, found_none}
use Rattle.memory_folder.proofs.store.Store.has.Goals as goal

pub returns-in-Some : goal.returns-in-Some
returns-in-Some c =
    let es = c.self.inside.entries.items in
    let place : IsPlace es c.args.name.now c.in-Some.field-0 = subst (λ (e : List Entry). IsPlace e c.args.name.now c.in-Some.field-0) c.as_slice.ensures.value c.in-Some.ensures.place in
    subst (λ (r : Recorded). true ≡ is_some (contents_of (past_of r) c.args.name.now)) c.self.view_is
    (sym (ap is_some (found_at es c.self.inside.placed c.self.inside.failed (past_of c.self.inside.past.value) c.args.name.now c.in-Some.field-0 c.self.invariant place)))

pub returns-in-None : goal.returns-in-None
returns-in-None c =
    let none : found c.self.inside.entries.items c.args.name.now ≡ None = subst (λ (e : List Entry). found e c.args.name.now ≡ None) c.as_slice.ensures.value (c.in-None.ensures.none refl) in
    subst (λ (r : Recorded). false ≡ is_some (contents_of (past_of r) c.args.name.now)) c.self.view_is
    (sym (ap is_some (found_none c.self.inside.entries.items c.self.inside.placed c.self.inside.failed (past_of c.self.inside.past.value) c.args.name.now c.self.invariant none)))
