use Rattle.std.proofs.Common.{◌≡◌, ◌-◌, ◌≤◌, length, take}
use Rattle.volume_scan.proofs.window.put_zeros.Given as goal

abbrev pub invariant-zeros : goal.invariant-zeros
invariant-zeros l = (take (length l.initial.bytes.items) l.bytes.items ≡ l.initial.bytes.items) × (length l.bytes.items ≤ l.wanted)

abbrev pub decreases-zeros : goal.decreases-zeros
decreases-zeros l = l.wanted - length l.bytes.items
