-- A stable sort by digest leaves the entries of each digest in the order in which they were.
use Rattle.std.proofs.Common.{List, ℕ, rules, ap, ◌∙◌}
use Rattle.std.specs.Ordering.{is_lt}
use Rattle.std.proofs.lemmas.Cmp.{nat_list_cmp_total}
use Rattle.std.proofs.lemmas.Fn.{always_returns_same}
use Rattle.std.proofs.lemmas.List.MinMax.{ranks_by}
use Rattle.revisit_table.specs.Table.{numbers_of}
use Rattle.revisit_table.proofs.GroupLemmas.{below, same_numbers, sorted_in_order}
use Rattle.revisit_table.proofs.groups.by_digest.Goals as goal

pub returns-clause-in_order : goal.returns-clause-in_order
returns-clause-in_order c =
    sorted_in_order c.sort_by.new.self.items
    (c.in_ok-sort_by.ensures.sorted below (ranks_by nat_list_cmp_total (λ (entry : List ℕ × ℕ). entry.0)) (always_returns_same _ _ _ (λ a r f k. (ap is_lt (search rules), search rules))))

pub returns-clause-same : goal.returns-clause-same
returns-clause-same c = λ digest.
    same_numbers c.sort_by.new.self.items _
    (c.sort_by.ensures.stable below (ranks_by nat_list_cmp_total (λ (entry : List ℕ × ℕ). entry.0)) (always_returns_same _ _ _ (λ a r f k. (ap is_lt (search rules), search rules)))) digest
    ∙ ap (numbers_of digest) c.in_ok-sorted.ensures.items
