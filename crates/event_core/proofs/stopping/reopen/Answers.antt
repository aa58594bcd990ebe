-- The disk was stopped, and opened to the book that a stop leaves.
use Rattle.std.proofs.Common.{Bool, Option, sym, subst}
use Rattle.capture.specs.declared.book.Book.{Book}
use Rattle.std.specs.Prelude.{is_some}
use Rattle.event_core.proofs.StopLaws.{knows_left, reopen_goes, reopen_shut, unstopped_shut}
use Rattle.event_core.specs.steps.Standing.{Knows}
use Rattle.event_core.proofs.stopping.reopen.Goals as goal

pub chosen-known-requires : goal.chosen-known-requires
chosen-known-requires c =
    subst (λ (stood : Bool). (known : Option Book) × Knows c.in-Ok.disk c.args.opening.now.namespace stood known) (sym c.told_by-stood.ensures)
    (knows_left c.args.opening.now.limits c.args.opening.now.namespace c.args.archive c.close.result c.close.ensures.disk c.close.ensures.near
    c.in-Ok.disk c.args.choice c.in-Ok.ensures.stopped c.in-Ok.ensures.image (is_some c.args.opening.now.first.value) c.requires.stands)

pub returns-in-Ok-clause-goes_on : goal.returns-in-Ok-clause-goes_on
returns-in-Ok-clause-goes_on c =
    reopen_goes c.args.opening.now.limits c.args.opening.now.namespace c.args.archive c.close.result c.close.ensures.disk c.close.ensures.near
    c.in-Ok.disk c.args.choice c.in-Ok.ensures.stopped c.in-Ok.ensures.image (is_some c.args.opening.now.first.value) c.chosen-known.result.value
    (rw c.told_by-stood.ensures at c.chosen-known.ensures) c.open.result c.open.ensures.reopened

pub returns-in-Ok-clause-refused : goal.returns-in-Ok-clause-refused
returns-in-Ok-clause-refused c =
    reopen_shut c.args.opening.now.limits c.args.opening.now.namespace c.args.archive c.close.result c.close.ensures.disk c.close.ensures.near
    c.in-Ok.disk c.args.choice c.in-Ok.ensures.stopped c.in-Ok.ensures.image (is_some c.args.opening.now.first.value) c.chosen-known.result.value
    (rw c.told_by-stood.ensures at c.chosen-known.ensures) c.open.result c.open.ensures.refused

pub returns-in-Err-clause-refused : goal.returns-in-Err-clause-refused
returns-in-Err-clause-refused c = λ so.
    unstopped_shut c.args.opening.now.limits c.args.opening.now.namespace c.args.archive c.close.result c.close.ensures.disk c.close.ensures.near
    c.in-Err.disk c.args.choice c.in-Err.ensures.refused
