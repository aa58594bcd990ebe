use Rattle.std.proofs.Common.{◌≡◌, rules, arith, sym, cond, ◌++◌, ◌∷◌, [], true, false, refl}
use Rattle.std.proofs.lemmas.Grind.{common_steps}
use Rattle.std.specs.Str.{bytes_eq}
use Rattle.std.proofs.lemmas.List.{append-nil}
use Rattle.revisit_table.specs.Lists.{items_of}
use Rattle.revisit_table.proofs.MapLemmas.{related}
use Rattle.revisit_table.proofs.lists.add_at.Goals as goal

pub returns-in-Some-clause-numbers : goal.returns-in-Some-clause-numbers
returns-in-Some-clause-numbers c = λ other.
    let m = c.args.lists.now in
    let w = c.push_reserved.new.self in
    let number = c.args.number in
    let key = c.args.digest.now in
    related items_of [] m (c.get_mut.follows.lender w) key w ((c.get_mut.follows.holds w).3 (search rules))
    (λ old new. new ≡ old ++ cond (bytes_eq key other) (number ∷ []) []) other
    (λ yes. rw yes (grind (arith, common_steps)))
    (λ no. rw no (sym (append-nil _)))

pub returns-in-Some-clause-lists : goal.returns-in-Some-clause-lists
returns-in-Some-clause-lists c = λ other.
    let w = c.push_reserved.new.self in
    related (λ numbers. true) false c.args.lists.now (c.get_mut.follows.lender w) c.args.digest.now w ((c.get_mut.follows.holds w).3 (search rules))
    (λ old new. new ≡ old) other (λ yes. grind (arith, common_steps)) (λ no. refl)
