use Rattle.std.proofs.Common.{◌++◌, ap, map, sym, subst, ◌∙◌}
use Rattle.std.specs.List.Sorted.{IsStrictlyIncreasing}
use Rattle.revisit_table.specs.Table.{Table}
use Rattle.revisit_table.proofs.Rising.{below_next, increasing-front}
use Rattle.revisit_table.proofs.lazy.put_all.Goals as goal

pub put-requires : goal.put-requires
put-requires c =
    let kept = c.entries.table.kept in
    let entry = c.in-Some.entry.now in
    let behind = c.in-Some.behind.now in
    let list = sym c.entries.invariant.all ∙ ap (λ l. kept ++ l) c.in-Some.ensures.cases.0 in
    record { above = below_next (λ entry. entry.1) kept entry behind (subst (λ l. IsStrictlyIncreasing (map (λ entry. entry.1) l)) list c.requires.rising) }

pub returns-in_err-put-clause-rising : goal.returns-in_err-put-clause-rising
returns-in_err-put-clause-rising c =
    let rising = subst (λ l. IsStrictlyIncreasing (map (λ entry. entry.1) l)) (sym c.entries.invariant.all) c.requires.rising in
    subst (λ (table : Table). IsStrictlyIncreasing (map (λ entry. entry.1) table.kept)) (sym c.in_err-put.ensures.err)
    (increasing-front (λ entry. entry.1) c.entries.table.kept c.entries.rest.now rising)
