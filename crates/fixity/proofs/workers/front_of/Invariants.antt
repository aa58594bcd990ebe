use Rattle.std.specs.Prelude.{ℕ, List}
use Rattle.fixity.specs.steps.Runs.{RunsTo}
use Rattle.fixity.specs.steps.Shares.{HasRead, HaveRead}
use Rattle.fixity.proofs.workers.front_of.Given as goal

abbrev pub invariant-passes : goal.invariant-passes
invariant-passes l = record {
  runs : (namespace : List ℕ) (number : ℕ) (bytes : List ℕ) → HasRead namespace number bytes l.fn.worker → HaveRead namespace number bytes l.fn.others
      → RunsTo namespace number bytes l.front.groups l.front.len;
}
