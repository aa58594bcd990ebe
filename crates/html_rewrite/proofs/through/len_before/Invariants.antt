use Rattle.std.proofs.Common.{◌≡◌, ℕ, ◌-◌, ◌<◌, ◌≤◌, false, length, drop}
use Rattle.html_rewrite.specs.Bytes.{begins_with}
use Rattle.html_rewrite.proofs.through.len_before.Given as goal

-- no closer begins at an earlier place
abbrev pub invariant-places : goal.invariant-places
invariant-places l = (l.len ≤ length l.text) × ((k : ℕ) → k < l.len → begins_with l.closer (drop k l.text) ≡ false)

abbrev pub decreases-places : goal.decreases-places
decreases-places l = length l.text - l.len
