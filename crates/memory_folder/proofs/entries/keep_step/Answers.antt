-- The entry at the place is the one of the name.
use Rattle.std.proofs.Common.{◌≡◌, List, ◌∙◌, subst}
use Rattle.std.proofs.lemmas.Result.{on_ok_weaker}
use Rattle.memory_folder.specs.Entry.{Entry, IsPlace, no_entry, with_step}
use Rattle.memory_folder.proofs.EntriesLaws.{changed-place}
use Rattle.memory_folder.proofs.entries.keep_step.Goals as goal

pub returns-in-Some-clause-ok : goal.returns-in-Some-clause-ok
returns-in-Some-clause-ok c =
    on_ok_weaker c.push_at.result
    (λ pushed. pushed ∙ changed-place (with_step c.args.step) c.args.entries.now.items c.args.name.now c.in-Some.i no_entry
    (subst (λ (es : List Entry). IsPlace es c.args.name.now c.in-Some.i) c.as_slice.ensures.value c.in-Some.ensures.place))
    c.push_at.ensures.ok
