use Rattle.std.proofs.Common.{sym, ◌∙◌}
use Rattle.capture.specs.Fields.{lowered}
use Rattle.http_head.proofs.HeaderLaws.{header_here, other_header, no_header}
use Rattle.http_head.proofs.fields.has_header.Goals as goal

pub returns-then-is_header_named : goal.returns-then-is_header_named
returns-then-is_header_named c =
    sym (header_here (lowered c.args.name.now) c.args.text.now c.args.headers.now c.loop-header.header-index _
    c.loop-header-test.true (sym c.is_header_named.ensures ∙ c.if-is_header_named.true)) ∙ c.loop-header.invariant

pub loop-header-preserved : goal.loop-header-preserved
loop-header-preserved c =
    other_header (lowered c.args.name.now) c.args.text.now c.args.headers.now c.loop-header.header-index _
    c.loop-header-test.true (sym c.is_header_named.ensures ∙ c.if-is_header_named.false) ∙ c.loop-header.invariant

pub returns : goal.returns
returns c =
    sym (no_header (lowered c.args.name.now) c.args.text.now c.args.headers.now c.loop-header.header-index c.loop-header-test.false)
    ∙ c.loop-header.invariant
