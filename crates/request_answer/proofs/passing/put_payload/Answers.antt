use Rattle.std.proofs.Common.{sym, ◌∙◌}
use Rattle.request_answer.proofs.PassLaws.{no_bytes, put_all_of, put_none, put_on}
use Rattle.request_answer.proofs.passing.put_payload.Goals as goal

pub putting-init : goal.putting-init
putting-init c cut payload is = put_none c.args.out.now.items payload _ _ (c.of-slices.ensures cut payload is)

pub putting-preserved : goal.putting-preserved
putting-preserved c cut payload is =
    let put = c.putting.invariant cut payload is in
    put_on c.args.out.now.items payload c.next-slice.result.now _ _ _ _ _ _ put (c.next-slice.ensures.front put.left put.is) c.in_ok-put_all.ensures

pub returns-then-is_empty : goal.returns-then-is_empty
returns-then-is_empty c cut payload is =
    let put = c.putting.invariant cut payload is in
    let leaves = c.next-slice.ensures.front put.left put.is in
    put_all_of c.args.out.now.items payload _ _ _ put (leaves.end (no_bytes c.next-slice.result.now (sym c.is_empty.ensures ∙ c.if-is_empty.true)))
