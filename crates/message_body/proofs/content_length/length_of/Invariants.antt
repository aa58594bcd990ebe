use Rattle.std.proofs.Common.{◌≡◌, map}
use Rattle.capture.specs.Fields.{members_of}
use Rattle.capture.specs.Framing.{content_length, length_of_members}
use Rattle.http_head.specs.Heads.{named_value}
use Rattle.message_body.specs.Framings.{told_behind}
use Rattle.message_body.proofs.FieldLaws.{fields_from}
use Rattle.message_body.proofs.content_length.length_of.Given as goal

-- the fields that are left tell the length
abbrev pub invariant-loop-field : goal.invariant-loop-field
invariant-loop-field l =
    told_behind l.known (members_of content_length (fields_from l.fields l.field-index))
    ≡ length_of_members (members_of content_length (map named_value l.fields))
