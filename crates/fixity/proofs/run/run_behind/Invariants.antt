use Rattle.std.specs.Prelude.{◌≡◌, ℕ, ◌-◌, ◌≤◌, List, length, take}
use Rattle.fixity.specs.steps.Runs.{RunsTo}
use Rattle.fixity.proofs.run.run_behind.Given as goal

abbrev pub invariant-groups : goal.invariant-groups
invariant-groups l = record {
  few : l.groups ≤ l.fn.most;
  inside : l.len ≤ length l.fn.bytes;
  runs : (rest : List ℕ) → length rest ≡ l.fn.room → l.fn.bytes ≡ take (length l.fn.bytes) rest → RunsTo l.fn.namespace l.fn.number rest l.groups l.len;
  first : l.groups ≡ 0 → l.len ≡ 0;
}

abbrev pub decreases-groups : goal.decreases-groups
decreases-groups l = l.fn.most - l.groups
