-- What is stored of an exchange fits.
use Rattle.std.proofs.Common.{refl, ℕ, List, length, ap, ◌∙◌, arith}
use Rattle.case_captures.proofs.FitLaws.{fits_by}
use Rattle.case_captures.proofs.taking.taken_with.Goals as goal

pub returns-clause-fits : goal.returns-clause-fits
returns-clause-fits c =
    let sends = c.requests_can_be_stored.ensures c.args.message.now c.args.target.now c.requires.origin in
    let gets = c.responses_can_be_stored.ensures c.args.response.now c.args.message.now.head.method c.requires.response (omega (arith, c.if-response-lt200.false)) in
    fits_by c.args.message.now c.args.target.now c.args.response.now c.args.date _ _ _ _ _ sends gets
    (omega (arith, c.if-date-gt-LATEST.false)) (omega (arith, c.if-as_slice-gt-WIRE_LIMIT.false, ap (λ (xs : List ℕ). length xs) c.as_slice.ensures))
    c.in_ok-copy.ensures c.in_ok-copy-2.ensures (c.request.view_is ∙ c.in_ok-request.ensures) c.in_ok-copy-3.ensures c.in_ok-copy-4.ensures

pub returns-clause-is : goal.returns-clause-is
returns-clause-is c = record {
  method_is = c.in_ok-copy.ensures;
  head_is = c.in_ok-copy-3.ensures;
  wire_is = c.in_ok-copy-4.ensures;
  cut_is = refl;
}
