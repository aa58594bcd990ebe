-- The list that is taken out has no numbers.
use Rattle.std.proofs.Common.{◌≡◌, [], true, false, refl, sym, ◌∙◌, true≢false, arith}
use Rattle.std.proofs.lemmas.Grind.{common_steps}
use Rattle.std.proofs.lemmas.Slice.Eq.{bytes_eq-Decides}
use Rattle.revisit_table.specs.Lists.{items_of, spare_of}
use Rattle.revisit_table.proofs.MapLemmas.{related_without}
use Rattle.revisit_table.proofs.lists.drop_unused.Goals as goal

pub returns-in-Some-clause-same : goal.returns-in-Some-clause-same
returns-in-Some-clause-same c = λ other.
    related_without items_of [] c.args.lists.now c.remove.new.self c.args.digest.now c.remove.ensures.updates
    (λ old new. new ≡ old) other (λ yes. grind (arith, common_steps)) (λ no. refl)

pub returns-in-Some-clause-spare : goal.returns-in-Some-clause-spare
returns-in-Some-clause-spare c = λ other reserved.
    related_without spare_of 0 c.args.lists.now c.remove.new.self c.args.digest.now c.remove.ensures.updates
    (λ old new. new ≡ old) other
    (λ yes.
    let same = (bytes_eq-Decides c.args.digest.now other).0 yes in
    let tested = rw (reserved, sym same) at c.eq.ensures in
    absurd (true≢false (sym (tested ∙ (bytes_eq-Decides c.args.digest.now c.args.digest.now).1 refl) ∙ c.if-eq.false)))
    (λ no. refl)

pub returns-in-Some-clause-others : goal.returns-in-Some-clause-others
returns-in-Some-clause-others c = λ other apart.
    related_without (λ numbers. true) false c.args.lists.now c.remove.new.self c.args.digest.now c.remove.ensures.updates
    (λ old new. new ≡ old) other (λ yes. absurd (true≢false (sym yes ∙ apart))) (λ no. refl)
