-- Volume by volume.
use Rattle.std.proofs.Common.{◌∷◌, List, subst, sym, ◌∙◌}
use Rattle.std.proofs.lemmas.List.Elements.{All-rest}
use Rattle.archive_volumes.specs.declared.volume_facts.VolumeFacts.{VolumeFacts}
use Rattle.verifying.specs.steps.Verifying.{HasChecked, IsSmall, IsThere}
use Rattle.verifying.proofs.VerifyLaws.{has_image}
use Rattle.verifying.proofs.verifying.check_all.Goals as goal

pub volumes-preserved : goal.volumes-preserved
volumes-preserved g c =
    let first = g.D.Disk.reading c.args.disk.now in
    let before = has_image g.D.Disk.tells first (g.D.Disk.reading c.volumes.disk) c.args.plan.now (c.in-Some.facts.now ∷ c.in-Some.others.now) c.volumes.report
    (λ told. sym (c.volumes.invariant.reading told))
    (subst (λ (l : List VolumeFacts). HasChecked g.D.Disk.tells first c.args.plan.now l c.volumes.report) c.in-Some.ensures.cases.0 c.volumes.invariant.checked) in
    record {
      checked = has_image g.D.Disk.tells (g.D.Disk.reading c.volumes.disk) first c.args.plan.now c.in-Some.others.now c.check_one.new.report
          c.volumes.invariant.reading (c.in-Ok.ensures.checks c.in-Some.others.now before);
      small = All-rest IsSmall c.in-Some.facts.now c.in-Some.others.now c.volumes.rest.now c.in-Some.ensures.cases.0 c.volumes.invariant.small;
      there = λ told. All-rest (IsThere first) c.in-Some.facts.now c.in-Some.others.now c.volumes.rest.now c.in-Some.ensures.cases.0 (c.volumes.invariant.there told);
      reading = λ told. c.check_one.ensures.reading told ∙ c.volumes.invariant.reading told;
      faults = c.in-Ok.ensures.faults ∙ c.volumes.invariant.faults;
    }

pub returns-in-Err-DiskFault-clause-checks : goal.returns-in-Err-DiskFault-clause-checks
returns-in-Err-DiskFault-clause-checks g c =
    let first = g.D.Disk.reading c.args.disk.now in
    let before = has_image g.D.Disk.tells first (g.D.Disk.reading c.volumes.disk) c.args.plan.now (c.in-Some.facts.now ∷ c.in-Some.others.now) c.volumes.report
    (λ told. sym (c.volumes.invariant.reading told))
    (subst (λ (l : List VolumeFacts). HasChecked g.D.Disk.tells first c.args.plan.now l c.volumes.report) c.in-Some.ensures.cases.0 c.volumes.invariant.checked) in
    let has = rw c.in-Err-DiskFault.field-0-is at (c.in-Err-DiskFault.ensures.checks c.in-Some.others.now before) in
    (has.0, has_image g.D.Disk.tells (g.D.Disk.reading c.volumes.disk) first c.args.plan.now has.0 c.check_one.new.report c.volumes.invariant.reading has.1)
