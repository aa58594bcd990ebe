use Rattle.std.proofs.Common.{◌≡◌, ◌≤◌, rules, arith, [], refl, sym, ◌∙◌, true, false, true≢false}
use Rattle.std.specs.Prelude.{Result, Ok, Err, OnErr}
use Rattle.std.proofs.lemmas.Grind.{common_steps}
use Rattle.revisit_table.specs.Lists.{items_of, spare_of}
use Rattle.revisit_table.specs.declared.numbers.Numbers.TheVariants.{Empty}
use Rattle.revisit_table.proofs.MapLemmas.{related}
use Rattle.revisit_table.proofs.lists.reserve_at.Goals as goal

pub returns-in_err-reserve-clause-others : goal.returns-in_err-reserve-clause-others
returns-in_err-reserve-clause-others c = λ other apart.
    let w = c.reserve.new.self in
    related (λ numbers. true) false c.args.lists.now (c.get_mut.follows.lender w) c.args.digest.now w ((c.get_mut.follows.holds w).3 (search rules))
    (λ old new. new ≡ old) other (λ yes. absurd (true≢false (sym yes ∙ apart))) (λ no. refl)

on_err : {T E P : Type 0} (r : Result T E) → P → OnErr r P
on_err (Ok x) p = tt
on_err (Err e) p = p

pub returns-in_err-reserve-clause-err : goal.returns-in_err-reserve-clause-err
returns-in_err-reserve-clause-err c = on_err c.from_residual.result λ other.
    let w = c.reserve.new.self in
    related (λ numbers. true) false c.args.lists.now (c.get_mut.follows.lender w) c.args.digest.now w ((c.get_mut.follows.holds w).3 (search rules))
    (λ old new. new ≡ old) other (λ yes. grind (arith, common_steps)) (λ no. refl)

pub returns-in-Some-clause-others : goal.returns-in-Some-clause-others
returns-in-Some-clause-others c = λ other apart.
    let w = c.reserve.new.self in
    related (λ numbers. true) false c.args.lists.now (c.get_mut.follows.lender w) c.args.digest.now w ((c.get_mut.follows.holds w).3 (search rules))
    (λ old new. new ≡ old) other (λ yes. absurd (true≢false (sym yes ∙ apart))) (λ no. refl)

pub returns-clause-others : goal.returns-clause-others
returns-clause-others c = λ other apart.
    let w = Empty in
    related (λ numbers. true) false c.args.lists.now c.insert.new.self c.args.digest.now w (rw c.get_mut.follows.holds-at-none at c.in_ok-insert.ensures.updates)
    (λ old new. new ≡ old) other (λ yes. absurd (true≢false (sym yes ∙ apart))) (λ no. refl)

pub returns-in_err-reserve-clause-same : goal.returns-in_err-reserve-clause-same
returns-in_err-reserve-clause-same c = λ other.
    let w = c.reserve.new.self in
    related items_of [] c.args.lists.now (c.get_mut.follows.lender w) c.args.digest.now w ((c.get_mut.follows.holds w).3 (search rules))
    (λ old new. new ≡ old) other (λ yes. grind (arith, common_steps)) (λ no. refl)

pub returns-in_err-reserve-clause-spare : goal.returns-in_err-reserve-clause-spare
returns-in_err-reserve-clause-spare c = λ other.
    let w = c.reserve.new.self in
    related spare_of 0 c.args.lists.now (c.get_mut.follows.lender w) c.args.digest.now w ((c.get_mut.follows.holds w).3 (search rules))
    (λ old new. old ≤ new) other (λ yes. grind (arith, common_steps)) (λ no. omega arith)

pub returns-in-Some-clause-same : goal.returns-in-Some-clause-same
returns-in-Some-clause-same c = λ other.
    let w = c.reserve.new.self in
    related items_of [] c.args.lists.now (c.get_mut.follows.lender w) c.args.digest.now w ((c.get_mut.follows.holds w).3 (search rules))
    (λ old new. new ≡ old) other (λ yes. grind (arith, common_steps)) (λ no. refl)

pub returns-in-Some-clause-spare : goal.returns-in-Some-clause-spare
returns-in-Some-clause-spare c = λ other.
    let w = c.reserve.new.self in
    related spare_of 0 c.args.lists.now (c.get_mut.follows.lender w) c.args.digest.now w ((c.get_mut.follows.holds w).3 (search rules))
    (λ old new. old ≤ new) other (λ yes. grind (arith, common_steps)) (λ no. omega arith)

pub returns-clause-same : goal.returns-clause-same
returns-clause-same c = λ other.
    let w = Empty in
    related items_of [] c.args.lists.now c.insert.new.self c.args.digest.now w (rw c.get_mut.follows.holds-at-none at c.in_ok-insert.ensures.updates)
    (λ old new. new ≡ old) other (λ yes. grind (arith, common_steps)) (λ no. refl)

pub returns-clause-spare : goal.returns-clause-spare
returns-clause-spare c = λ other.
    let w = Empty in
    related spare_of 0 c.args.lists.now c.insert.new.self c.args.digest.now w (rw c.get_mut.follows.holds-at-none at c.in_ok-insert.ensures.updates)
    (λ old new. old ≤ new) other (λ yes. grind (arith, common_steps)) (λ no. omega arith)
