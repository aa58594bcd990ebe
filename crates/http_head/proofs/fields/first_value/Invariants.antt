use Rattle.std.proofs.Common.{◌≡◌, map, drop}
use Rattle.capture.specs.Fields.{lowered, values_of}
use Rattle.http_head.specs.Heads.{named_value}
use Rattle.http_head.proofs.fields.first_value.Given as goal

-- no field so far has the name
abbrev pub invariant-loop-field : goal.invariant-loop-field
invariant-loop-field l =
    values_of (lowered l.name) (map named_value (drop l.field-index l.fields)) ≡ values_of (lowered l.name) (map named_value l.fields)
