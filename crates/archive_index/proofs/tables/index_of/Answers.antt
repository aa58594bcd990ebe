use Rattle.std.proofs.Common.{rules, ap}
use Rattle.std.specs.List.Sorted.{IsPermutation, IsSorted}
use Rattle.std.specs.Ordering.{is_lt}
use Rattle.std.proofs.lemmas.Fn.{always_returns_same}
use Rattle.std.proofs.lemmas.List.MinMax.{ranks_by}
use Rattle.std.proofs.lemmas.List.Sorted.{IsPermutation-trans}
use Rattle.index_entry.proofs.Orders.{order_total}
use Rattle.index_entry.specs.Facts.{Facts}
use Rattle.index_entry.specs.Order.{order}
use Rattle.index_entry.specs.Queries.{IsIndex}
use Rattle.archive_index.proofs.SortLaws.{index_sorted, made_of}
use Rattle.archive_index.proofs.tables.index_of.Goals as goal

pub of_sorted-requires : goal.of_sorted-requires
of_sorted-requires c =
    let up : IsSorted order c.sort_unstable_by.new.self.items =
    c.sort_unstable_by.ensures.sorted (λ (x y : Facts). is_lt (order x y)) (ranks_by order_total (λ (e : Facts). e))
    (always_returns_same _ _ _ (λ a r f k. (ap is_lt (search rules), search rules))) in
    let same : IsPermutation c.args.entries.items c.sort_unstable_by.new.self.items =
    IsPermutation-trans c.args.entries.items c.bring_to_order.new.entries.items c.sort_unstable_by.new.self.items c.bring_to_order.ensures c.sort_unstable_by.ensures.permutation in
    index_sorted c.args.entries.items c.sort_unstable_by.new.self.items c.requires.numbered same up

pub returns-clause-index : goal.returns-clause-index
returns-clause-index c =
    let up : IsSorted order c.sort_unstable_by.new.self.items =
    c.sort_unstable_by.ensures.sorted (λ (x y : Facts). is_lt (order x y)) (ranks_by order_total (λ (e : Facts). e))
    (always_returns_same _ _ _ (λ a r f k. (ap is_lt (search rules), search rules))) in
    let same : IsPermutation c.args.entries.items c.sort_unstable_by.new.self.items =
    IsPermutation-trans c.args.entries.items c.bring_to_order.new.entries.items c.sort_unstable_by.new.self.items c.bring_to_order.ensures c.sort_unstable_by.ensures.permutation in
    made_of IsIndex c.sort_unstable_by.new.self.items c.of_sorted.result
    (index_sorted c.args.entries.items c.sort_unstable_by.new.self.items c.requires.numbered same up) c.of_sorted.ensures

pub returns-clause-same : goal.returns-clause-same
returns-clause-same c =
    made_of (IsPermutation c.args.entries.items) c.sort_unstable_by.new.self.items c.of_sorted.result
    (IsPermutation-trans c.args.entries.items c.bring_to_order.new.entries.items c.sort_unstable_by.new.self.items c.bring_to_order.ensures c.sort_unstable_by.ensures.permutation)
    c.of_sorted.ensures
