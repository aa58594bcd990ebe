use Rattle.std.proofs.Common.{◌<◌, ◌∷◌, ◌++◌, [], List, ℕ, append_assoc, ap, map, sym, subst, ◌∙◌}
use Rattle.std.specs.List.Sorted.{IsStrictlyIncreasing}
use Rattle.std.proofs.lemmas.List.Elements.{recursion_from_All}
use Rattle.revisit_table.proofs.Rising.{increasing-push}
use Rattle.revisit_table.proofs.lazy.LazyDigests.push.Goals as goal

pub invariant_of-self-2 : goal.invariant_of-self-2
invariant_of-self-2 c =
    let table = c.self.inside.table.kept in
    let waiting = c.self.inside.waiting.items in
    let number = c.args.number in
    let added : List ℕ × ℕ = (c.args.digest.now, number) in
    let above = rw (sym c.self.view_is) at c.requires.above in
    let rising = increasing-push (λ entry. entry.1) (table ++ waiting) added c.self.invariant.1 (recursion_from_All (λ entry. entry.1 < number) (table ++ waiting) above) in
    let list = append_assoc table waiting (added ∷ []) ∙ ap (λ l. table ++ l) (sym c.in_ok-push.ensures.items) in
    (c.self.invariant.0, subst (λ l. IsStrictlyIncreasing (map (λ entry. entry.1) l)) list rising)
