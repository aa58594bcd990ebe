use Rattle.std.specs.Prelude.{ℕ, List}
use Rattle.fixity.specs.steps.Runs.{RunsTo}
use Rattle.fixity.specs.steps.Shares.{HasRead, HaveRead}
use Rattle.fixity.proofs.workers.with_all.Given as goal

abbrev pub invariant-others : goal.invariant-others
invariant-others l = record {
  runs : (namespace : List ℕ) (number : ℕ) (bytes : List ℕ) → HasRead namespace number bytes l.fn.worker → HaveRead namespace number bytes l.fn.others
      → RunsTo namespace number bytes l.fn.front.groups l.fn.front.len → RunsTo namespace number bytes l.longer.groups l.longer.len;
}
