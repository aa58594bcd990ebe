use Rattle.std.proofs.Common.{◌≡◌, ℕ, ◌-◌, ◌<◌, ◌≤◌, false, length, drop}
use Rattle.html_rewrite.specs.Split.{ends_raw_text}
use Rattle.html_rewrite.proofs.raw_text.len_before_end_tag.Given as goal

-- no end tag begins at an earlier place
abbrev pub invariant-places : goal.invariant-places
invariant-places l = (l.len ≤ length l.text) × ((k : ℕ) → k < l.len → ends_raw_text l.element (drop k l.text) ≡ false)

abbrev pub decreases-places : goal.decreases-places
decreases-places l = length l.text - l.len
