use Rattle.std.proofs.Common.{◌≡◌, ◌++◌, length}
use Rattle.html_rewrite.specs.Links.{decoded}
use Rattle.html_rewrite.proofs.reference.decode.Given as goal

-- what was read, and how the rest will be
abbrev pub invariant-bytes : goal.invariant-bytes
invariant-bytes l = l.list.items ++ decoded l.rest ≡ decoded l.value

abbrev pub decreases-bytes : goal.decreases-bytes
decreases-bytes l = length l.rest
