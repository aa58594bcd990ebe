use Rattle.std.proofs.Common.{sym, ap, ◌∙◌}
use Rattle.std.specs.Prelude.{codes}
use Rattle.std.specs.Str.{bytes_eq}
use Rattle.capture.specs.Fields.{lowered}
use Rattle.message_body.proofs.FieldLaws.{second_value, one_value_alone}
use Rattle.message_body.proofs.framing.is_chunked.Goals as goal

pub returns-then-has_field : goal.returns-then-has_field
returns-then-has_field c =
    sym (second_value c.args.fields.now c.loop-i.i c.index-fields-i.result c.split_at.result.1.now c.loop-i-test.true c.index-fields-i.is
    (sym c.has_name.ensures ∙ c.if-has_name.true) c.split_at.ensures.back (sym c.has_field.ensures ∙ c.if-has_field.true)
    c.loop-i.invariant)

pub returns-then-has_name : goal.returns-then-has_name
returns-then-has_name c =
    c.is_coding_chunked.ensures ∙ ap (λ v. bytes_eq (lowered v) (codes "chunked")) c.as_slice.ensures
    ∙ sym (one_value_alone c.args.fields.now c.loop-i.i c.index-fields-i.result c.split_at.result.1.now c.loop-i-test.true
    c.index-fields-i.is (sym c.has_name.ensures ∙ c.if-has_name.true) c.split_at.ensures.back
    (sym c.has_field.ensures ∙ c.if-has_field.false) c.loop-i.invariant)
