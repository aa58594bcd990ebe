use Rattle.std.proofs.Common.{◌+◌, Some, sym, ap, subst, ◌∙◌}
use Rattle.message_body.specs.Framings.{length_answer}
use Rattle.message_body.proofs.FieldLaws.{Tells, tells_on, tells_nothing, tells_behind_other}
use Rattle.message_body.proofs.content_length.length_of.Goals as goal
use Rattle.message_body.proofs.content_length.length_of.Goals.{then-has_name+in-Some, else-has_name}

pub returns-in-None : goal.returns-in-None
returns-in-None c =
    sym (ap length_answer (tells_nothing c.loop-field.known c.args.fields.now c.loop-field.field-index c.field-item.result
    c.as_slice.result.now c.loop-field-test.true c.field-item.is (sym c.has_name.ensures ∙ c.if-has_name.true) c.as_slice.ensures
    c.in-None.ensures.none c.loop-field.invariant))

pub loop-field-preserved : goal.loop-field-preserved
loop-field-preserved c =
    elim c.if-has_name.branch [
      | then-has_name+in-Some w ↦ subst (λ k. Tells k c.args.fields.now (c.loop-field.field-index + 1)) (sym w.known-is)
          (tells_on c.loop-field.known (Some w.in-Some.number) c.args.fields.now c.loop-field.field-index c.field-item.result
          w.as_slice.result.now c.loop-field-test.true c.field-item.is (sym c.has_name.ensures ∙ w.if-has_name.true) w.as_slice.ensures
          w.in-Some.ensures.told c.loop-field.invariant)
      | else-has_name w ↦ subst (λ k. Tells k c.args.fields.now (c.loop-field.field-index + 1)) (sym w.known-is)
          (tells_behind_other c.loop-field.known c.args.fields.now c.loop-field.field-index c.field-item.result c.loop-field-test.true
          c.field-item.is (sym c.has_name.ensures ∙ w.if-has_name.false) c.loop-field.invariant)
    ]
