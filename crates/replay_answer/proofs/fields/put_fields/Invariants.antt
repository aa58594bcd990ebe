use Rattle.std.proofs.Common.{◌≡◌, ◌++◌, map, drop}
use Rattle.http_head.specs.Heads.{named_value}
use Rattle.replay_answer.specs.StoredFields.{memento_fields}
use Rattle.replay_answer.proofs.fields.put_fields.Given as goal

-- what is written, and what is to come
abbrev pub invariant-loop-field : goal.invariant-loop-field
invariant-loop-field l =
    l.out.items ++ memento_fields l.replay.site.now.base l.replay.capture.now l.replay.raw (map named_value (drop l.field-index l.fields))
    ≡ l.initial.out.items ++ memento_fields l.replay.site.now.base l.replay.capture.now l.replay.raw (map named_value l.fields)
