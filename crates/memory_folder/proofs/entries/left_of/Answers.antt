-- One entry more is left, or not.
use Rattle.std.proofs.Common.{◌≡◌, ℕ, List, ap, ◌∙◌, sym, take, length, arith, add-one}
use Rattle.memory_folder.specs.Entry.{Entry, left_entries, with_left}
use Rattle.memory_folder.proofs.TakingLaws.{with_left-more}
use Rattle.memory_folder.proofs.entries.left_of.Goals as goal

pub loop-entry-preserved : goal.loop-entry-preserved
loop-entry-preserved c =
    let i = c.loop-entry.entry-index in
    let es = c.args.entries.now in
    c.in_ok-leave.ensures
    ∙ ap (λ (left : List Entry). with_left c.args.budget c.entry-item.result left) c.loop-entry.invariant
    ∙ ap (λ (e : Entry). with_left c.args.budget e (left_entries c.args.budget (take i es))) c.entry-item.is
    ∙ sym (with_left-more c.args.budget es i c.entry-item.result (omega (arith, c.loop-entry-test.true)))
    ∙ ap (λ (n : ℕ). left_entries c.args.budget (take n es)) (sym (add-one i))
