use Rattle.std.proofs.Common.{rules, ap}
use Rattle.std.specs.List.Sorted.{IsSorted}
use Rattle.std.specs.Ordering.{is_lt}
use Rattle.std.proofs.lemmas.Fn.{always_returns_same}
use Rattle.std.proofs.lemmas.List.MinMax.{ranks_by}
use Rattle.cdxj_line.specs.declared.line.Line.{Line}
use Rattle.checkpoint.specs.Checkpoints.{line_order}
use Rattle.volume_lines.proofs.LineOrder.{line_order_total, line_order_ties}
use Rattle.volume_lines.proofs.SortLaws.{rise}
use Rattle.volume_lines.proofs.sort.sort_lines.Goals as goal

pub returns-clause-in_order : goal.returns-clause-in_order
returns-clause-in_order c =
    let up : IsSorted line_order c.sort_unstable_by.new.self.items =
    c.sort_unstable_by.ensures.sorted (λ (x y : Line). is_lt (line_order x y)) (ranks_by line_order_total (λ (l : Line). l))
    (always_returns_same _ _ _ (λ a r f k. (ap is_lt (search rules), search rules))) in
    rise line_order line_order_total (λ (l : Line). l.number) line_order_ties c.args.lines.now.items c.sort_unstable_by.new.self.items c.requires.numbered
    c.sort_unstable_by.ensures.permutation up
