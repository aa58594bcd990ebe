use Rattle.std.proofs.Common.{◌≡◌, drop, map}
use Rattle.capture.specs.Fields.{values_of}
use Rattle.http_head.specs.Heads.{named_value}
use Rattle.warc_reader.specs.Fields.{concurrent_to}
use Rattle.warc_reader.specs.Tables.{first_at, place_at}
use Rattle.warc_reader.proofs.requests.find_first.Given as goal

-- what was looked up, and what is still to be looked up
abbrev pub invariant-loop-field : goal.invariant-loop-field
invariant-loop-field l =
    first_at (place_at l.places) (values_of concurrent_to (map named_value (drop l.field-index l.fields))) l.first
    ≡ first_at (place_at l.fn.places) (values_of concurrent_to (map named_value l.fn.fields)) l.fn.found
