-- The closer is there, or the text ends first.
use Rattle.std.proofs.Common.{◌≡◌, ◌+◌, ◌≤◌, List, ℕ, length, take, drop, subst, ap, arith}
use Rattle.html_rewrite.specs.Bytes.{IsUpTo, begins_with}
use Rattle.html_rewrite.proofs.Places.{through_at, through_closer, through_end}
use Rattle.html_rewrite.proofs.through.through_len.Goals as goal

pub returns-then-closer-inner-clause-through : goal.returns-then-closer-inner-clause-through
returns-then-closer-inner-clause-through c =
    let len = c.len_before-len.result in
    let closer = c.args.closer.now in
    let first = subst (λ (x : List ℕ). IsUpTo (begins_with closer) (take len x) (drop len x)) c.split_at.ensures.back c.len_before-len.ensures.front in
    through_at c.args.text.now c.args.opening len (c.args.opening + len + length closer) closer first (through_closer c.args.text.now c.args.opening len closer)

pub returns-else-closer-inner-clause-through : goal.returns-else-closer-inner-clause-through
returns-else-closer-inner-clause-through c =
    let len = c.len_before-len.result in
    let closer = c.args.closer.now in
    let first = subst (λ (x : List ℕ). IsUpTo (begins_with closer) (take len x) (drop len x)) c.split_at.ensures.back c.len_before-len.ensures.front in
    let sizes : length c.split_at.result.1.now ≡ length (drop c.args.opening c.args.text.now) = ap length c.split_at.ensures.back in
    let short : length (drop c.args.opening c.args.text.now) ≤ len + length closer = omega (arith, sizes) in
    through_at c.args.text.now c.args.opening len (length c.args.text.now) closer first (through_end c.args.text.now c.args.opening len closer short)
