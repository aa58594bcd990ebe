use Rattle.std.proofs.Common.{◌≡◌, refl, sym, ap, ◌∙◌}
use Rattle.volume_scan.specs.declared.position.Stage.{Stage}
use Rattle.volume_scan.specs.declared.position.Stage.TheVariants.{Done, Skipped}
use Rattle.volume_scan.proofs.scanning.Scanning.step.Goals as goal

not_both : (stage : Stage) → stage ≡ Done → stage ≡ Skipped → ⊥
not_both stage is other = let e : ◌≡◌ {A = Stage} Done Skipped = sym is ∙ other in cc e

pub returns-in-Done-clause-finds : goal.returns-in-Done-clause-finds
returns-in-Done-clause-finds g c =
    let old = c.args.self.now in
    let done : old.position.stage ≡ Done = c.in-Done.is in
    record {
      position = ap (λ (s : Stage). record old.position { stage = s }) done;
      not_skipped = λ told is. not_both old.position.stage done is;
      read = λ told. refl;
      held = λ told. ((c.requires.in_place.stands told).lies.done done).held;
      behind = λ told. (c.requires.in_place.stands told).lies.behind done;
      furthest = λ told. (c.requires.in_place.stands told).lies.furthest done;
    }
