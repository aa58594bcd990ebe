use Rattle.std.specs.Prelude.{All, ℕ, List}
use Rattle.fixity.specs.declared.shares.Share.{Share}
use Rattle.fixity.specs.steps.Runs.{RunsTo}
use Rattle.fixity.specs.steps.Shares.{ShareStands}
use Rattle.fixity.proofs.shares.with_each.Given as goal

abbrev pub invariant-shares : goal.invariant-shares
invariant-shares l = record {
  runs : (namespace : List ℕ) (number : ℕ) (bytes : List ℕ) → All (λ (share : Share). ShareStands namespace number bytes share) l.fn.shares
      → RunsTo namespace number bytes l.fn.front.groups l.fn.front.len → RunsTo namespace number bytes l.longer.groups l.longer.len;
}
