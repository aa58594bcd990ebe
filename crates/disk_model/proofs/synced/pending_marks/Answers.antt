-- One change more is seen, the one before those that were.
use Rattle.std.proofs.Common.{◌≡◌, ◌<◌, ◌+◌, ◌-◌, ℕ, List, ◌∷◌, length, take, drop, sym, ap, ◌∙◌, subst, arith}
use Rattle.std.proofs.lemmas.List.{drop_more, drop-set, length-drop, length-set, take_all}
use Rattle.disk_model.specs.Changes.{is_pending}
use Rattle.disk_model.specs.steps.Pending.{pending_of}
use Rattle.disk_model.specs.steps.Synced.{Marks}
use Rattle.disk_model.specs.declared.change.Change.{Change}
use Rattle.disk_model.proofs.synced.pending_marks.Goals as goal

pub loop-i-preserved : goal.loop-i-preserved
loop-i-preserved c =
    let changes = c.args.changes.now in
    let j = c.loop-i.i - 1 in
    let inside : j < length changes = omega arith in
    let next : j + 1 ≡ c.loop-i.i = omega arith in
    let change = c.index-changes-i.result in
    let split : drop j changes ≡ change ∷ drop c.loop-i.i changes =
    drop_more changes j change inside ∙ (λ k. (sym c.index-changes-i.is) k ∷ drop (next k) changes) in
    let rest : take (length changes - (c.loop-i.i - 1 + 1)) (drop (c.loop-i.i - 1 + 1) changes) ≡ drop c.loop-i.i changes =
    take_all (length changes - (c.loop-i.i - 1 + 1)) (drop (c.loop-i.i - 1 + 1) changes) (omega (arith, length-drop (c.loop-i.i - 1 + 1) changes)) ∙ ap (λ (n : ℕ). drop n changes) next in
    record {
      within = omega arith;
      size = length-set c.loop-i.marks.items j c.in_ok-marks-2.field-0 ∙ c.loop-i.invariant.size;
      seen = subst (λ (l : List Change). Marks c.see.new.self l) (ap (λ (l : List Change). change ∷ l) rest ∙ sym split) c.in_ok-marks-2.ensures.marks;
      marks =
          drop-set c.loop-i.marks.items j c.in_ok-marks-2.field-0 (omega (arith, inside))
          ∙ (λ k. (c.in_ok-marks-2.ensures.pending ∙ ap (λ (l : List Change). is_pending change l) rest) k ∷ (ap (λ (n : ℕ). drop n c.loop-i.marks.items) next ∙ c.loop-i.invariant.marks) k)
          ∙ ap pending_of (sym split);
    }
