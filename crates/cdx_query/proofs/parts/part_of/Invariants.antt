use Rattle.std.proofs.Common.{take, map}
use Rattle.std.specs.Prelude.{filter}
use Rattle.cdx_query.specs.Given.{IsGiven}
use Rattle.cdx_query.specs.Values.{gives}
use Rattle.cdx_query.proofs.parts.part_of.Given as goal

-- what the parts so far give
abbrev pub invariant-loop-part : goal.invariant-loop-part
invariant-loop-part l = IsGiven (filter (gives l.name) (map (λ p. p.now) (take l.part-index l.parts))) l.given
