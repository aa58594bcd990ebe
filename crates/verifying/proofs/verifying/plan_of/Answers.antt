-- The volumes of a book have its captures together.
use Rattle.std.proofs.Common.{◌+◌, ◌≤◌, List, All, ap, subst, sym, arith}
use Rattle.archive_shelf.specs.declared.counts.Counts.{Counts}
use Rattle.archive_volumes.specs.declared.volume_facts.VolumeFacts.{VolumeFacts}
use Rattle.verifying.proofs.VerifyLaws.{facts_within}
use Rattle.verifying.proofs.verifying.plan_of.Goals as goal

pub plan_for-requires-clause-within : goal.plan_for-requires-clause-within
plan_for-requires-clause-within g c =
    let most = c.counts-captures.result.captures in
    subst (λ (l : List VolumeFacts). All (λ (facts : VolumeFacts). facts.first + facts.count ≤ most) l) (sym c.in_ok-volumes.ensures)
    (facts_within most 0 0 c.args.archive.now.book.volumes (omega (arith, ap (λ (x : Counts). x.captures) c.counts-captures.ensures)))
