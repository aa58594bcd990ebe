use Rattle.fixity.specs.steps.Batches.{number_in}
use Rattle.fixity.specs.steps.Shares.{HasRead}
use Rattle.fixity.proofs.workers.read_shares.Given as goal

abbrev pub invariant-shares : goal.invariant-shares
invariant-shares l = record {
  read : HasRead l.fn.plan.namespace (number_in l.fn.plan.due l.fn.batch) l.fn.batch.bytes.items l.worker;
}
