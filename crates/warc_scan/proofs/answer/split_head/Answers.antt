use Rattle.std.proofs.Common.{◌++◌, length, Err, sym, ap, subst, ◌∙◌, arith, take-append-drop}
use Rattle.capture.proofs.HeadLaws.{response_heads_end}
use Rattle.capture.specs.WellFormed.{IsFinalHead}
use Rattle.http_head.proofs.FrontLaws.{end_fits}
use Rattle.warc_scan.proofs.AnswerHeads.{ends_there, final_status, parts_end, split_there}
use Rattle.warc_scan.proofs.answer.split_head.Goals as goal

pub split_at-requires : goal.split_at-requires
split_at-requires c = end_fits c.args.block.now c.in-Some.end (sym c.in-Some.ensures)

pub returns-in_default-clause-wrong : goal.returns-in_default-clause-wrong
returns-in_default-clause-wrong c = λ is head wire parsed composed final.
    c.in_default.not-Some (length head)
    (c.find_head_end.ensures ∙ ends_there response_heads_end c.args.block.now head wire parsed final.whole composed)

pub returns-in-Err-Malformed-clause-wrong : goal.returns-in-Err-Malformed-clause-wrong
returns-in-Err-Malformed-clause-wrong c = λ is head wire parsed composed final.
    let there = split_there response_heads_end c.args.block.now head wire c.in-Some.end parsed final.whole composed
    c.in-Some.ensures in
    let whole = subst (λ t. IsFinalHead t parsed) (sym (c.split_at.ensures.front ∙ there)) final in
    c.in-Err-Malformed.ensures.malformed (ap (λ e. Err e) c.in-Err-Malformed.field-0-is) parsed whole.whole

pub returns-then-parsed-lt-LEAST_FINAL-clause-wrong :
    goal.returns-then-parsed-lt-LEAST_FINAL-clause-wrong
returns-then-parsed-lt-LEAST_FINAL-clause-wrong c = λ is head wire parsed composed final.
    let there = split_there response_heads_end c.args.block.now head wire c.in-Some.end parsed final.whole composed
    c.in-Some.ensures in
    let high = final_status c.split_at.result.0.now c.in-Ok.parsed parsed c.in-Ok.ensures.ok
    (subst (λ t. IsFinalHead t parsed) (sym (c.split_at.ensures.front ∙ there)) final) in
    absurd (omega (arith, high, c.if-parsed-lt-LEAST_FINAL.true))

pub returns-else-parsed-lt-LEAST_FINAL-clause-ok :
    goal.returns-else-parsed-lt-LEAST_FINAL-clause-ok
returns-else-parsed-lt-LEAST_FINAL-clause-ok c = (
  sym ((λ i. c.split_at.ensures.front i ++ c.split_at.ensures.back i) ∙ take-append-drop c.in-Some.end c.args.block.now),
  record {
    ends = parts_end response_heads_end c.split_at.result.0.now c.in-Ok.parsed c.in-Ok.ensures.ok;
    holds = c.in-Ok.ensures.ok;
    final = omega (arith, c.if-parsed-lt-LEAST_FINAL.false);
  },
)
