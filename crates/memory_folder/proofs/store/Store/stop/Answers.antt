-- What is left is what a crash may leave.
use Rattle.std.proofs.Common.{◌≡◌, ◌++◌, ◌∷◌, [], ℕ, List, Option, Some, None, is_some, refl, ap, ◌∙◌, sym, subst}
use Rattle.folder_model.specs.Folder.{contents_of, MayLeave}
use Rattle.memory_folder.specs.Entry.{Entry, IsPlace, found, changed, with_step, entry_synced, all_listed, left_entries, reading, no_entry}
use Rattle.memory_folder.specs.Past.{Recorded, past_of, all_settled}
use Rattle.memory_folder.proofs.StoreLaws.{moved, is_of-settled, stop_leaves, gone_leaves}
use Rattle.memory_folder.proofs.store.Store.stop.Goals as goal

pub invariant_of-result : goal.invariant_of-result
invariant_of-result c =
    let es = c.self.inside.entries.items in
    let left : c.in_ok-entries.entries.items ≡ left_entries c.of-budget.result es = c.in_ok-entries.ensures ∙ ap (left_entries c.of-budget.result) c.as_slice.ensures.value in
    moved left refl refl (ap past_of c.settled.ensures ∙ ap (λ (e : List Entry). past_of (all_settled e)) left) (is_of-settled c.of-budget.result es c.self.invariant.apart)

pub returns-clause-left : goal.returns-clause-left
returns-clause-left c =
    let es = c.self.inside.entries.items in
    let left : c.in_ok-entries.entries.items ≡ left_entries c.of-budget.result es = c.in_ok-entries.ensures ∙ ap (left_entries c.of-budget.result) c.as_slice.ensures.value in
    subst (λ (r : Recorded). MayLeave (past_of c.args.self.now) (contents_of (past_of r))) (sym (c.settled.ensures ∙ ap all_settled left))
    (subst (λ (r : Recorded). MayLeave (past_of r) (contents_of (past_of (all_settled (left_entries c.of-budget.result es))))) c.self.view_is
    (stop_leaves c.of-budget.result es c.self.inside.placed c.self.inside.failed (past_of c.self.inside.past.value) c.self.invariant))

pub returns-then-is_gone-clause-left : goal.returns-then-is_gone-clause-left
returns-then-is_gone-clause-left c =
    subst (λ (r : Recorded). MayLeave (past_of r) (λ name. None)) c.self.view_is
    (gone_leaves c.self.inside.entries.items c.self.inside.placed c.self.inside.failed (past_of c.self.inside.past.value) (c.is_gone.ensures c.if-is_gone.true) c.self.invariant)
