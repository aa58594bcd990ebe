use Rattle.std.proofs.Common.{◌≡◌, ◌≤◌, ◌==◌, not, rules, arith, cond, [], refl, true, false}
use Rattle.std.specs.Prelude.{filter}
use Rattle.std.specs.Str.{bytes_eq}
use Rattle.std.proofs.lemmas.Grind.{common_steps}
use Rattle.revisit_table.specs.Lists.{items_of, spare_of}
use Rattle.revisit_table.proofs.MapLemmas.{related}
use Rattle.revisit_table.proofs.lists.take_at.Goals as goal

pub returns-in-Some-clause-same : goal.returns-in-Some-clause-same
returns-in-Some-clause-same c = λ other.
    let m = c.args.lists.now in
    let w = c.take_out.new.self in
    let number = c.args.number in
    let key = c.args.digest.now in
    related items_of [] m (c.get_mut.follows.lender w) key w ((c.get_mut.follows.holds w).3 (search rules))
    (λ old new. new ≡ cond (bytes_eq key other) (filter (λ n. not (n == number)) old) old) other
    (λ yes. rw yes (grind (arith, common_steps)))
    (λ no. rw no refl)

pub returns-in-Some-clause-spare : goal.returns-in-Some-clause-spare
returns-in-Some-clause-spare c = λ other.
    let m = c.args.lists.now in
    let w = c.take_out.new.self in
    related spare_of 0 m (c.get_mut.follows.lender w) c.args.digest.now w ((c.get_mut.follows.holds w).3 (search rules))
    (λ old new. old ≤ new) other
    (λ yes. grind (arith, common_steps))
    (λ no. omega arith)

pub returns-in-Some-clause-lists : goal.returns-in-Some-clause-lists
returns-in-Some-clause-lists c = λ other.
    let w = c.take_out.new.self in
    related (λ numbers. true) false c.args.lists.now (c.get_mut.follows.lender w) c.args.digest.now w ((c.get_mut.follows.holds w).3 (search rules))
    (λ old new. new ≡ old) other (λ yes. grind (arith, common_steps)) (λ no. refl)
