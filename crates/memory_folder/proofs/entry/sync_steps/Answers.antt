-- One step more is changed.
use Rattle.std.proofs.Common.{◌≡◌, ◌<◌, ◌++◌, List, ap, ◌∙◌, sym, set, get_or, take, drop, length, arith, add-one}
use Rattle.memory_folder.specs.Entry.{step_synced, steps_synced}
use Rattle.memory_folder.specs.declared.step.Step.{Step}
use Rattle.memory_folder.proofs.TakingLaws.{steps_synced-more}
use Rattle.memory_folder.proofs.entry.sync_steps.Goals as goal

pub loop-step-preserved : goal.loop-step-preserved
loop-step-preserved c =
    let i = c.loop-step.step-index in
    let d = c.step-item.result in
    ap (λ (s : Step). set c.loop-step.steps i s) c.set_synced.ensures
    ∙ ap (λ (xs : List Step). set xs i (step_synced c.args.done (get_or xs i d))) c.loop-step.invariant
    ∙ steps_synced-more c.args.done c.args.steps.now i d (omega (arith, c.loop-step-test.true, ap length c.loop-step.invariant))
    ∙ (λ k. steps_synced c.args.done (take (sym (add-one i) k) c.args.steps.now) ++ drop (sym (add-one i) k) c.args.steps.now)
