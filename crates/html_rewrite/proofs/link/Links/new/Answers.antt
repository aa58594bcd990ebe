-- The outline is that of the page's own address.
use Rattle.std.proofs.Common.{◌∙◌}
use Rattle.html_rewrite.proofs.link.Links.new.Goals as goal

pub invariant_of-result : goal.invariant_of-result
invariant_of-result c = record { outlined = λ b o is some. c.in_ok-outline.ensures b o (c.as_ref.ensures.value ∙ is) some }
