-- The order of lines is total, and ties lines of one number alone.
use Rattle.std.proofs.Common.{◌≡◌, ap}
use Rattle.std.specs.Cmp.{IsTotalOrder}
use Rattle.std.specs.Cmp.Lexicographic.{slice_cmp}
use Rattle.std.specs.Ordering.{nat_cmp}
use Rattle.std.specs.declared.cmp.Ordering.TheVariants.{Equal}
use Rattle.std.proofs.lemmas.Cmp.{on_total}
use Rattle.index_entry.proofs.Orders.{both_equal, moment_tied, order_total}
use Rattle.index_entry.specs.Order.{moment_cmp, moment_of}
use Rattle.index_entry.specs.OfLine.{facts_of}
use Rattle.cdxj_line.specs.declared.line.Line.{Line}
use Rattle.checkpoint.specs.Checkpoints.{line_order}

pub line_order_total : IsTotalOrder line_order
line_order_total = on_total facts_of order_total

pub line_order_ties : (a b : Line) → line_order a b ≡ Equal → a.number ≡ b.number
line_order_ties a b tied =
    let both = both_equal (slice_cmp nat_cmp a.key b.key) (moment_cmp (moment_of (facts_of a)) (moment_of (facts_of b))) tied in
    ap (λ m. m.1) (moment_tied (moment_of (facts_of a)) (moment_of (facts_of b)) both.1)
