-- Each step makes the next change of those that are left.
use Rattle.std.proofs.Common.{◌≡◌, ◌<◌, ◌+◌, Bool, List, ◌∷◌, length, get_or, drop, sym, ap, ◌∙◌, arith, add-one}
use Rattle.std.proofs.lemmas.List.{drop_more}
use Rattle.disk_model.specs.Changes.{is_pending, replayed}
use Rattle.disk_model.specs.steps.Pending.{kept_changes}
use Rattle.disk_model.specs.declared.change.Change.{Change}
use Rattle.disk_model.proofs.Pending.{length-pending_of, get_or-pending_of}
use Rattle.disk_model.proofs.stop.replay.Goals as goal

pub index-requires : goal.index-requires
index-requires c = omega (arith, c.loop-i-test.true, ap length c.in_ok-pending.ensures, length-pending_of c.args.changes.now)

pub loop-i-preserved : goal.loop-i-preserved
loop-i-preserved c =
    let changes = c.args.changes.now in
    let i = c.loop-i.i in
    let inside : i < length changes = omega (arith, c.loop-i-test.true) in
    let change = c.index-changes-i.result in
    let later = drop (i + 1) changes in
    let split : drop i changes ≡ change ∷ later = drop_more changes i change inside ∙ ap (λ (x : Change). x ∷ later) (sym c.index-changes-i.is) in
    let pending : c.index.result.now ≡ is_pending change later =
    c.index.ensures ∙ ap (λ (l : List Bool). get_or l i c.index.result.now) c.in_ok-pending.ensures
    ∙ get_or-pending_of changes i change c.index.result.now inside
    ∙ (λ k. is_pending (sym c.index-changes-i.is k) (drop (sym (add-one i) k) changes)) in
    sym (c.in_ok-left.ensures later pending) ∙ ap (λ (l : List Change). replayed (kept_changes c.loop-i.left l) c.loop-i.files) (sym split) ∙ c.loop-i.invariant
