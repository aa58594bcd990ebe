use Rattle.std.proofs.Common.{◌≡◌, drop, map}
use Rattle.cdx_query.specs.Values.{are_known}
use Rattle.cdx_query.proofs.parts.are_known.Given as goal

-- it depends on the parts that are left
abbrev pub invariant-loop-part : goal.invariant-loop-part
invariant-loop-part l = are_known (map (λ p. p.now) (drop l.part-index l.parts)) ≡ are_known (map (λ p. p.now) l.parts)
