use Rattle.std.proofs.Common.{length}
use Rattle.html_rewrite.specs.steps.Reading.{ahead, link_by}
use Rattle.html_rewrite.proofs.Whole.{ReadsOn}
use Rattle.html_rewrite.proofs.page.rewrite_by.Given as goal

abbrev pub invariant-reading : goal.invariant-reading
invariant-reading l = ReadsOn l.links.limit (link_by l.links) l.page l.rewriter

abbrev pub decreases-reading : goal.decreases-reading
decreases-reading l = length (ahead l.rewriter)
