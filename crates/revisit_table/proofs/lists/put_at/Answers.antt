-- The entry of the digest has the numbers that stand there, or none.
use Rattle.std.proofs.Common.{◌≡◌, ◌≢◌, ◌≤◌, arith, sym, ap, ◌∙◌, cond, ◌++◌, ◌∷◌, [], Option, None, Some, true, false, true≢false, refl, unwrap_or}
use Rattle.std.proofs.lemmas.List.{append-nil}
use Rattle.std.proofs.lemmas.Result.{on_ok_weaker, on_err_weaker}
use Rattle.std.specs.BTreeMap.{get}
use Rattle.std.specs.BTreeMap.Entry.{map_with_value}
use Rattle.std.specs.Cmp.Lexicographic.{slice_cmp}
use Rattle.std.specs.Option.{option_map_or}
use Rattle.std.specs.Ordering.{nat_cmp}
use Rattle.std.specs.Str.{bytes_eq}
use Rattle.revisit_table.specs.Lists.{Numbers, has_list, items_of, numbers_at, spare_at, spare_of}
use Rattle.revisit_table.specs.declared.numbers.Numbers.TheVariants.{Empty}
use Rattle.revisit_table.proofs.MapLemmas.{related}
use Rattle.revisit_table.proofs.lists.put_at.Goals as goal

items_there : (o : Option Numbers) (x : Numbers) → x ≡ unwrap_or o Empty → option_map_or items_of o [] ≡ items_of x
items_there None x is = ap items_of (sym is)
items_there (Some y) x is = ap items_of (sym is)

spare_there : (o : Option Numbers) (x : Numbers) → x ≡ unwrap_or o Empty → option_map_or spare_of o 0 ≤ spare_of x
spare_there None x is = omega arith
spare_there (Some y) x is = let same = ap spare_of is in omega (arith, same)

list_there : (o : Option Numbers) (x : Numbers) → x ≡ unwrap_or o Empty → x ≢ Empty → true ≡ option_map_or (λ (numbers : Numbers). true) o false
list_there None x is filled = absurd (filled is)
list_there (Some y) x is filled = refl

pub returns-clause-ok : goal.returns-clause-ok
returns-clause-ok c =
    let m = c.args.lists.now in
    let key = c.args.digest.now in
    let w = c.put.new.self in
    let written = map_with_value c.in_ok-lists.field-0 w in
    let updates = c.in_ok-lists.ensures.update.0 w in
    let number = c.args.number in
    let there = items_there (get (slice_cmp nat_cmp) m key) c.or_insert-numbers.result.now (c.or_insert-numbers.ensures.value ∙ ap (λ o. unwrap_or o Empty) c.in_ok-lists.ensures.value) in
    on_ok_weaker c.put.result (λ put other.
    let holds : numbers_at written other ≡ numbers_at m other ++ cond (bytes_eq key other) (number ∷ []) [] =
    related items_of [] m written key w updates (λ old new. new ≡ old ++ cond (bytes_eq key other) (number ∷ []) []) other
    (λ yes. rw yes (put ∙ ap (λ l. l ++ number ∷ []) (sym there))) (λ no. rw no (sym (append-nil _))) in
    grind (arith, holds)) c.put.ensures.ok

pub returns-clause-others : goal.returns-clause-others
returns-clause-others c =
    let m = c.args.lists.now in
    let key = c.args.digest.now in
    let w = c.put.new.self in
    let written = map_with_value c.in_ok-lists.field-0 w in
    let updates = c.in_ok-lists.ensures.update.0 w in
    λ other apart.
    let holds : has_list written other ≡ has_list m other =
    related (λ numbers. true) false m written key w updates (λ old new. new ≡ old) other (λ yes. absurd (true≢false (sym yes ∙ apart))) (λ no. refl) in
    grind (arith, holds)

pub returns-clause-same : goal.returns-clause-same
returns-clause-same c =
    let m = c.args.lists.now in
    let key = c.args.digest.now in
    let w = c.put.new.self in
    let written = map_with_value c.in_ok-lists.field-0 w in
    let updates = c.in_ok-lists.ensures.update.0 w in
    let there = items_there (get (slice_cmp nat_cmp) m key) c.or_insert-numbers.result.now (c.or_insert-numbers.ensures.value ∙ ap (λ o. unwrap_or o Empty) c.in_ok-lists.ensures.value) in
    on_err_weaker c.put.result (λ same other.
    let holds : numbers_at written other ≡ numbers_at m other =
    related items_of [] m written key w updates (λ old new. new ≡ old) other (λ yes. same ∙ sym there) (λ no. refl) in
    grind (arith, holds)) c.put.ensures.same

pub returns-clause-spare : goal.returns-clause-spare
returns-clause-spare c =
    let m = c.args.lists.now in
    let key = c.args.digest.now in
    let w = c.put.new.self in
    let written = map_with_value c.in_ok-lists.field-0 w in
    let updates = c.in_ok-lists.ensures.update.0 w in
    let there = spare_there (get (slice_cmp nat_cmp) m key) c.or_insert-numbers.result.now (c.or_insert-numbers.ensures.value ∙ ap (λ o. unwrap_or o Empty) c.in_ok-lists.ensures.value) in
    on_err_weaker c.put.result (λ spare other.
    let holds : spare_at m other ≤ spare_at written other =
    related spare_of 0 m written key w updates (λ old new. old ≤ new) other (λ yes. omega (arith, there, spare)) (λ no. omega arith) in
    grind (arith, holds)) c.put.ensures.spare

pub returns-clause-err : goal.returns-clause-err
returns-clause-err c =
    let m = c.args.lists.now in
    let key = c.args.digest.now in
    let w = c.put.new.self in
    let written = map_with_value c.in_ok-lists.field-0 w in
    let updates = c.in_ok-lists.ensures.update.0 w in
    let there = list_there (get (slice_cmp nat_cmp) m key) c.or_insert-numbers.result.now (c.or_insert-numbers.ensures.value ∙ ap (λ o. unwrap_or o Empty) c.in_ok-lists.ensures.value) in
    on_err_weaker c.put.result (λ filled other.
    let holds : has_list written other ≡ has_list m other =
    related (λ numbers. true) false m written key w updates (λ old new. new ≡ old) other (λ yes. there filled) (λ no. refl) in
    grind (arith, holds)) c.put.ensures.err
