use Rattle.std.specs.Prelude.{◌-◌, ◌≤◌, length}
use Rattle.fixity.proofs.shares.cut.Given as goal

abbrev pub invariant-shares : goal.invariant-shares
invariant-shares l = record {
  few : l.groups ≤ l.fn.most;
  inside : l.len ≤ length l.fn.bytes;
}

abbrev pub decreases-shares : goal.decreases-shares
decreases-shares l = l.fn.most - l.groups
