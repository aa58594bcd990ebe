use Rattle.std.proofs.Common.{sym, ◌∙◌, arith}
use Rattle.request_answer.proofs.PassLaws.{counted_all, counted_none, counted_on, no_bytes}
use Rattle.request_answer.proofs.passing.payload_len.Goals as goal

pub counting-init : goal.counting-init
counting-init c = (omega arith, λ cut payload is. counted_none payload _ _ (c.of-slices.ensures cut payload is))

pub counting-preserved : goal.counting-preserved
counting-preserved c = (
  omega (arith, c.counting.invariant.0, c.next-slice.ensures.room),
  λ cut payload is.
      let counted = c.counting.invariant.1 cut payload is in
      counted_on payload c.next-slice.result.now _ _ _ _ c.counting.len counted (c.next-slice.ensures.front counted.left counted.is),
)

pub returns-then-is_empty : goal.returns-then-is_empty
returns-then-is_empty c cut payload is =
    let counted = c.counting.invariant.1 cut payload is in
    let leaves = c.next-slice.ensures.front counted.left counted.is in
    counted_all payload _ _ c.counting.len counted (leaves.end (no_bytes c.next-slice.result.now (sym c.is_empty.ensures ∙ c.if-is_empty.true)))
