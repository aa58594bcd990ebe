use Rattle.std.proofs.Common.{◌≡◌, take}
use Rattle.std.specs.Prelude.{map}
use Rattle.httparse.specs.Spans.{header_bytes}
use Rattle.http_head.specs.Heads.{named_value}
use Rattle.http_head.proofs.parts.copy_fields.Given as goal

abbrev pub invariant-loop-header : goal.invariant-loop-header
invariant-loop-header l =
    map named_value l.fields.items ≡ map (header_bytes l.text) (take l.header-index l.headers)
