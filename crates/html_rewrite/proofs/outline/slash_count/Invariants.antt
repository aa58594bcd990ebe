use Rattle.std.proofs.Common.{◌≡◌, ◌+◌, ◌≤◌, length}
use Rattle.html_rewrite.specs.steps.Paths.{slashes}
use Rattle.html_rewrite.proofs.outline.slash_count.Given as goal

-- the slashes so far, and those of the rest
abbrev pub invariant-bytes : goal.invariant-bytes
invariant-bytes l = (l.count + slashes l.rest ≡ slashes l.path) × (l.count + length l.rest ≤ length l.path)

abbrev pub decreases-bytes : goal.decreases-bytes
decreases-bytes l = length l.rest
