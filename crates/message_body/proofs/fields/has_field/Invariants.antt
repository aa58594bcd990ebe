use Rattle.std.proofs.Common.{◌≡◌, map}
use Rattle.capture.specs.Fields.{has_field, lowered}
use Rattle.http_head.specs.Heads.{named_value}
use Rattle.message_body.proofs.FieldLaws.{fields_from}
use Rattle.message_body.proofs.fields.has_field.Given as goal

-- the fields that are left tell it
abbrev pub invariant-loop-field : goal.invariant-loop-field
invariant-loop-field l = has_field (lowered l.name) (fields_from l.fields l.field-index) ≡ has_field (lowered l.name) (map named_value l.fields)
