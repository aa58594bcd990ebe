use Rattle.std.specs.Prelude.{◌-◌, ◌≤◌, length}
use Rattle.fixity.proofs.shares.told_front.Given as goal

abbrev pub invariant-groups : goal.invariant-groups
invariant-groups l = record {
  few : l.groups ≤ l.fn.most;
  inside : l.len ≤ length l.fn.bytes;
}

abbrev pub decreases-groups : goal.decreases-groups
decreases-groups l = l.fn.most - l.groups
