use Rattle.std.proofs.Common.{◌≡◌, List, ℕ, drop, map}
use Rattle.std.specs.List.{list_any}
use Rattle.std.specs.Str.{bytes_eq}
use Rattle.capture.specs.Fields.{values_of}
use Rattle.http_head.specs.Heads.{named_value}
use Rattle.warc_reader.specs.Fields.{concurrent_to}
use Rattle.warc_reader.specs.Tables.{noted, place_at}
use Rattle.warc_reader.proofs.requests.note_concurrent.Given as goal

-- what was noted, and what is still to be noted
abbrev pub invariant-loop-field : goal.invariant-loop-field
invariant-loop-field l = (other : List ℕ)
    → noted (place_at l.places other) (list_any (λ id. bytes_eq id other) (values_of concurrent_to (map named_value (drop l.field-index l.fields)))) l.at
    ≡ noted (place_at l.fn.places other) (list_any (λ id. bytes_eq id other) (values_of concurrent_to (map named_value l.fn.fields))) l.fn.at
