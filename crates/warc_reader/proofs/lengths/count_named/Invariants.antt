use Rattle.std.proofs.Common.{◌≡◌, ◌+◌, ◌≤◌, drop, map, length}
use Rattle.capture.specs.Fields.{lowered, values_of}
use Rattle.http_head.specs.Heads.{named_value}
use Rattle.warc_reader.proofs.lengths.count_named.Given as goal

-- what was counted, and what is still to be counted
abbrev pub invariant-loop-field : goal.invariant-loop-field
invariant-loop-field l =
    (l.count + length (values_of (lowered l.name) (map named_value (drop l.field-index l.fields)))
    ≡ length (values_of (lowered l.name) (map named_value l.fields)))
    × (l.count ≤ l.field-index)
