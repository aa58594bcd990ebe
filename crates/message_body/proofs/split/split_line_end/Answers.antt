use Rattle.std.proofs.Common.{◌∙◌, sym, subst}
use Rattle.capture.specs.Chunks.{IsBegunLineEnd}
use Rattle.message_body.specs.steps.Splits.{IsLineEndSeen}
use Rattle.message_body.specs.declared.split.LineEndSeen.TheVariants.{Wrong}
use Rattle.message_body.proofs.SplitSteps.{chunk_at, cut_in_line_end, nothing_behind_data}
use Rattle.message_body.proofs.split.split_line_end.Goals as goal

pub returns-in-Whole : goal.returns-in-Whole
returns-in-Whole c =
    chunk_at c.args.text.now c.args.chunk_data c.in-Whole.ensures.0 c.requires (sym c.split_at.ensures.back ∙ c.in-Whole.ensures.1)

pub returns-in-Open : goal.returns-in-Open
returns-in-Open c =
    cut_in_line_end c.args.text.now c.args.chunk_data c.requires (subst IsBegunLineEnd c.split_at.ensures.back c.in-Open.ensures)

pub returns-in-Wrong : goal.returns-in-Wrong
returns-in-Wrong c =
    nothing_behind_data c.args.text.now c.args.chunk_data c.requires
    (subst (λ s. IsLineEndSeen s Wrong) c.split_at.ensures.back c.in-Wrong.ensures)
