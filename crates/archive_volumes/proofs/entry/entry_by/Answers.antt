use Rattle.std.proofs.Common.{◌∙◌}
use Rattle.archive_volumes.proofs.EntryLaws.{enters, is_get}
use Rattle.archive_volumes.proofs.entry.entry_by.Goals as goal

pub returns-in_ok-key-in-Some : goal.returns-in_ok-key-in-Some
returns-in_ok-key-in-Some c = λ stored text h is of.
    enters stored h c.args.at c.entry_with.result
    (is.method_is ∙ is_get c.args.asked.now.method.now c.as_slice.result.now c.as_slice.ensures c.if-ne.ensures)
    (λ e. c.if-head-eq-NOT_MODIFIED.false (of.status ∙ e)) (c.entry_with.ensures stored text h is of)

pub returns-in-None : goal.returns-in-None
returns-in-None c = λ stored text h is of.
    enters stored h c.args.at c.told_entry.result
    (is.method_is ∙ is_get c.args.asked.now.method.now c.as_slice.result.now c.as_slice.ensures c.if-ne.ensures)
    (λ e. c.if-head-eq-NOT_MODIFIED.false (of.status ∙ e)) (c.told_entry.ensures stored text h is of)
