use Rattle.std.proofs.Common.{◌≡◌, ℕ, ◌+◌, List, drop, length, take, subst}
use Rattle.fixity.specs.steps.Batches.{number_in}
use Rattle.fixity.specs.steps.Runs.{RunsTo}
use Rattle.fixity.proofs.ShareLaws.{share_stands}
use Rattle.fixity.proofs.workers.stands.Goals as goal

pub returns : goal.returns
returns c = λ is.
    let share = c.args.share in
    let namespace = c.args.plan.now.namespace in
    let bytes = c.args.batch.now.bytes.items in
    let number = number_in c.args.plan.now.due c.args.batch.now + share.before in
    let text = c.in-Some.text.now in
    let front : text ≡ take share.len (drop share.at bytes) = subst (λ (l : List ℕ). text ≡ take share.len (drop share.at l)) c.as_slice.ensures.value c.in-Some.ensures.text in
    let run = subst (λ n. RunsTo namespace n text share.groups (length text)) c.in-Some-number_of.ensures.0 (c.is_run.ensures is) in
    share_stands namespace number bytes text share.at share.len share.groups front c.in-Some.ensures.len run
