use Rattle.std.proofs.Common.{◌≡◌, map}
use Rattle.httparse.specs.Spans.{header_bytes}
use Rattle.capture.specs.Fields.{has_field, lowered}
use Rattle.http_head.proofs.HeaderLaws.{headers_from}
use Rattle.http_head.proofs.fields.has_header.Given as goal

-- the headers that are left tell it
abbrev pub invariant-loop-header : goal.invariant-loop-header
invariant-loop-header l =
    has_field (lowered l.name) (headers_from l.text l.headers l.header-index)
    ≡ has_field (lowered l.name) (map (header_bytes l.text) l.headers)
