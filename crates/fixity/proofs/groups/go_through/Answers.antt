use Rattle.std.proofs.Common.{◌≡◌, ◌+◌, ◌-◌, drop, length, take, sym, ap, subst, ◌∙◌, inl, arith}
use Rattle.std.proofs.lemmas.List.{length-drop}
use Rattle.disk_model.specs.Image.{Image}
use Rattle.fixity.specs.Verdicts.{StandsUpTo}
use Rattle.fixity.specs.declared.batch.Spot.{Spot}
use Rattle.fixity.specs.steps.Batches.{AreParts}
use Rattle.fixity.specs.steps.Files.{IsIn, file_in, volume_in}
use Rattle.fixity.specs.steps.Runs.{EndFits, EndsBy, IsFarthest, IsRun}
use Rattle.fixity.proofs.RunLaws.{all_stand, one_is_missing, stands_on}
use Rattle.fixity.proofs.groups.go_through.Goals as goal

pub overflow_add-place : goal.overflow_add-place
overflow_add-place g c =
    let at_place : c.get_ready.new.table.ready.at.place ≡ c.batches.place = ap (λ (s : Spot). s.place) c.in_ok-get_ready.ensures.at in
    let fit = c.in_ok-get_ready.ensures.fit c.batches.invariant.fit in
    omega (arith, c.in_ok-run.ensures.within.inside, fit.ready, at_place)

pub returns-in-Whole-clause-found : goal.returns-in-Whole-clause-found
returns-in-Whole-clause-found g c = λ told.
    let image = g.D.Disk.reading c.batches.disk in
    let due = c.args.plan.now.due in
    let namespace = c.args.plan.now.namespace in
    let file = file_in image due in
    let volume = volume_in due namespace in
    let place = c.batches.place in
    let ready = c.get_ready.new.table.ready in
    let at_place : ready.at.place ≡ place = ap (λ (s : Spot). s.place) c.in_ok-get_ready.ensures.at in
    let at_before : ready.at.before ≡ c.batches.groups = ap (λ (s : Spot). s.before) c.in_ok-get_ready.ensures.at in
    let parts = c.in_ok-get_ready.ensures.parts told (c.batches.invariant.parts told) in
    let shown : ready.bytes.items ≡ take (length ready.bytes.items) (drop place file) =
    subst (λ p. ready.bytes.items ≡ take (length ready.bytes.items) (drop p file)) at_place parts.ready in
    let long : length (drop place file) ≡ due.len - ready.at.place = omega (arith, length-drop place file, (c.batches.invariant.there told).len, at_place) in
    let run = subst (λ n. IsRun namespace (due.first + n) (due.count - n) (drop place file) c.in_ok-run.run') at_before (c.in_ok-run.ensures.run (drop place file) long shown) in
    let ends = subst (λ x. EndsBy namespace (due.first + c.batches.groups) (due.count - c.batches.groups) (drop place file) c.in_ok-run.run'.groups c.in_ok-run.run'.len x) c.in-Whole.is run.ends in
    subst (λ (i : Image). IsFarthest volume (file_in i due) (c.batches.groups + c.in_ok-run.run'.groups) (place + c.in_ok-run.run'.len)) (c.batches.invariant.reading told)
    (all_stand volume file c.batches.groups place (c.batches.invariant.stands told) c.in_ok-run.run'.groups c.in_ok-run.run'.len run.stands (omega (arith, ends, c.batches-test.true)))

pub returns-in-Missing-clause-found : goal.returns-in-Missing-clause-found
returns-in-Missing-clause-found g c = λ told.
    let image = g.D.Disk.reading c.batches.disk in
    let due = c.args.plan.now.due in
    let namespace = c.args.plan.now.namespace in
    let file = file_in image due in
    let volume = volume_in due namespace in
    let place = c.batches.place in
    let ready = c.get_ready.new.table.ready in
    let at_place : ready.at.place ≡ place = ap (λ (s : Spot). s.place) c.in_ok-get_ready.ensures.at in
    let at_before : ready.at.before ≡ c.batches.groups = ap (λ (s : Spot). s.before) c.in_ok-get_ready.ensures.at in
    let parts = c.in_ok-get_ready.ensures.parts told (c.batches.invariant.parts told) in
    let shown : ready.bytes.items ≡ take (length ready.bytes.items) (drop place file) =
    subst (λ p. ready.bytes.items ≡ take (length ready.bytes.items) (drop p file)) at_place parts.ready in
    let long : length (drop place file) ≡ due.len - ready.at.place = omega (arith, length-drop place file, (c.batches.invariant.there told).len, at_place) in
    let run = subst (λ n. IsRun namespace (due.first + n) (due.count - n) (drop place file) c.in_ok-run.run') at_before (c.in_ok-run.ensures.run (drop place file) long shown) in
    let ends = subst (λ x. EndsBy namespace (due.first + c.batches.groups) (due.count - c.batches.groups) (drop place file) c.in_ok-run.run'.groups c.in_ok-run.run'.len x) c.in-Missing.is run.ends in
    subst (λ (i : Image). IsFarthest volume (file_in i due) (c.batches.groups + c.in_ok-run.run'.groups) (place + c.in_ok-run.run'.len)) (c.batches.invariant.reading told)
    (one_is_missing volume file c.batches.groups place (c.batches.invariant.stands told) c.in_ok-run.run'.groups c.in_ok-run.run'.len run.stands ends.1)

pub returns-clause-found : goal.returns-clause-found
returns-clause-found g c = λ told.
    subst (λ (i : Image). IsFarthest (volume_in c.args.plan.now.due c.args.plan.now.namespace) (file_in i c.args.plan.now.due) c.batches.groups c.batches.place) (c.batches.invariant.reading told)
    (record { stands = c.batches.invariant.stands told; far = inl (omega (arith, c.batches.invariant.few, c.batches-test.false)) })

pub batches-preserved : goal.batches-preserved
batches-preserved g c =
    let due = c.args.plan.now.due in
    let ready = c.get_ready.new.table.ready in
    let at_place : ready.at.place ≡ c.batches.place = ap (λ (s : Spot). s.place) c.in_ok-get_ready.ensures.at in
    let at_before : ready.at.before ≡ c.batches.groups = ap (λ (s : Spot). s.before) c.in_ok-get_ready.ensures.at in
    let fit = c.in_ok-get_ready.ensures.fit c.batches.invariant.fit in
    let within = c.in_ok-run.ensures.within in
    let need = subst (λ x. EndFits (length ready.bytes.items) (due.len - ready.at.place) c.in_ok-run.run'.len x) c.in-Need.is within.end in
    let there : (told : _) → g.D.Disk.reading c.run_ready.new.disk ≡ g.D.Disk.reading c.batches.disk = λ told. c.run_ready.ensures.reading told ∙ c.get_ready.ensures.reading told in
    record {
      few = omega (arith, within.few, c.batches-test.true, at_before);
      inside = omega (arith, within.inside, fit.ready, at_place);
      need = omega (arith, need.1, at_place);
      there = λ told. subst (λ (i : Image). IsIn i due) (sym (there told)) (c.batches.invariant.there told);
      stands = λ told.
          let image = g.D.Disk.reading c.batches.disk in
          let namespace = c.args.plan.now.namespace in
          let file = file_in image due in
          let volume = volume_in due namespace in
          let place = c.batches.place in
          let parts = c.in_ok-get_ready.ensures.parts told (c.batches.invariant.parts told) in
          let shown : ready.bytes.items ≡ take (length ready.bytes.items) (drop place file) =
          subst (λ p. ready.bytes.items ≡ take (length ready.bytes.items) (drop p file)) at_place parts.ready in
          let long : length (drop place file) ≡ due.len - ready.at.place = omega (arith, length-drop place file, (c.batches.invariant.there told).len, at_place) in
          let run = subst (λ n. IsRun namespace (due.first + n) (due.count - n) (drop place file) c.in_ok-run.run') at_before (c.in_ok-run.ensures.run (drop place file) long shown) in
          subst (λ (i : Image). StandsUpTo volume (file_in i due) (c.batches.groups + c.in_ok-run.run'.groups) (place + c.in_ok-run.run'.len)) (sym (there told))
          (stands_on volume file c.batches.groups place (c.batches.invariant.stands told) c.in_ok-run.run'.groups c.in_ok-run.run'.len run.stands);
      parts = λ told.
          let first = subst (λ (i : Image). AreParts (file_in i due) c.get_ready.new.table) (sym (c.get_ready.ensures.reading told)) (c.in_ok-get_ready.ensures.parts told (c.batches.invariant.parts told)) in
          let now : AreParts (file_in (g.D.Disk.reading c.get_ready.new.disk) due) (record { ready = ready; crew = c.run_ready.new.crew }) =
          record { ready = first.ready; ahead = c.in_ok-run.ensures.part told first.ahead } in
          subst (λ (i : Image). AreParts (file_in i due) (record { ready = ready; crew = c.run_ready.new.crew })) (sym (c.run_ready.ensures.reading told)) now;
      fit = record { ready = fit.ready; ahead = c.in_ok-run.ensures.fits fit.ahead };
      reading = λ told. there told ∙ c.batches.invariant.reading told;
      faults = c.in_ok-run.ensures.faults ∙ c.in_ok-get_ready.ensures.faults ∙ c.batches.invariant.faults;
    }
