use Rattle.std.proofs.Common.{◌≡◌, ◌+◌, ◌≤◌, length}
use Rattle.html_rewrite.specs.steps.Paths.{front_with}
use Rattle.html_rewrite.proofs.outline.front_len.Given as goal

-- what was read is a part of the front
abbrev pub invariant-bytes : goal.invariant-bytes
invariant-bytes l = (length (front_with l.slashes l.path) + length l.rest ≡ length l.path + length (front_with l.left l.rest)) × (length l.rest ≤ length l.path)

abbrev pub decreases-bytes : goal.decreases-bytes
decreases-bytes l = length l.rest
