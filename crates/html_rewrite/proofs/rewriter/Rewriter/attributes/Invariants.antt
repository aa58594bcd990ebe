use Rattle.std.proofs.Common.{length}
use Rattle.html_rewrite.specs.steps.Reading.{ahead, link_by}
use Rattle.html_rewrite.proofs.Inside.{GoesOn}
use Rattle.html_rewrite.proofs.rewriter.Rewriter.attributes.Given as goal

abbrev pub invariant-attributes : goal.invariant-attributes
invariant-attributes l = GoesOn l.links.limit (link_by l.links) l.element l.initial.self l.self

abbrev pub decreases-attributes : goal.decreases-attributes
decreases-attributes l = length (ahead l.self)
