use Rattle.fixity.proofs.ShareLaws.{runs_inside}
use Rattle.fixity.proofs.workers.front_of.Goals as goal

pub returns : goal.returns
returns c = λ namespace number bytes mine theirs.
    let runs = c.passes.invariant.runs namespace number bytes mine theirs in
    record { stands = runs; inside = runs_inside namespace number bytes c.passes.front.groups c.passes.front.len runs }
