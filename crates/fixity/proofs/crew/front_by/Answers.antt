use Rattle.std.proofs.Common.{List, sym, subst}
use Rattle.fixity.specs.declared.workers.Worker.{Worker}
use Rattle.fixity.specs.steps.Batches.{number_in}
use Rattle.fixity.specs.steps.Shares.{HaveRead}
use Rattle.fixity.proofs.crew.front_by.Goals as goal

pub returns-clause-front : goal.returns-clause-front
returns-clause-front g c =
    let namespace = c.args.plan.now.namespace in
    let number = number_in c.args.plan.now.due c.args.batch.now in
    let bytes = c.args.batch.now.bytes.items in
    let others = subst (λ (workers : List Worker). HaveRead namespace number bytes workers) (sym c.as_slice.ensures.value) c.read_by_all.ensures.others in
    c.front_of-front.ensures namespace number bytes c.read_by_all.ensures.worker others
