use Rattle.std.proofs.Common.{sym, ◌∙◌}
use Rattle.capture.specs.Fields.{lowered}
use Rattle.message_body.proofs.FieldLaws.{found_here, not_here, not_found}
use Rattle.message_body.proofs.fields.has_field.Goals as goal

pub returns-then-has_name : goal.returns-then-has_name
returns-then-has_name c =
    sym (found_here (lowered c.args.name.now) c.args.fields.now c.loop-field.field-index c.field-item.result c.loop-field-test.true c.field-item.is
    (sym c.has_name.ensures ∙ c.if-has_name.true)) ∙ c.loop-field.invariant

pub loop-field-preserved : goal.loop-field-preserved
loop-field-preserved c =
    not_here (lowered c.args.name.now) c.args.fields.now c.loop-field.field-index c.field-item.result c.loop-field-test.true c.field-item.is
    (sym c.has_name.ensures ∙ c.if-has_name.false) ∙ c.loop-field.invariant

pub returns : goal.returns
returns c =
    sym (not_found (lowered c.args.name.now) c.args.fields.now c.loop-field.field-index c.loop-field-test.false) ∙ c.loop-field.invariant
