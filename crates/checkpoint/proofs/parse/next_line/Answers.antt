use Rattle.std.proofs.Common.{◌≡◌, Some, sym, subst, ◌∙◌}
use Rattle.cdxj_line.specs.declared.line.Line.{Line}
use Rattle.checkpoint.specs.steps.Lines.{CanFollow}
use Rattle.checkpoint.proofs.Cutting.{front_is, no_line_without}
use Rattle.checkpoint.proofs.parse.next_line.Goals as goal

pub returns-in_default : goal.returns-in_default
returns-in_default c = λ line behind front follows. no_line_without line behind c.args.rest.now front.is front.text_is c.in_default.ensures

pub returns-in_default-2 : goal.returns-in_default-2
returns-in_default-2 c = λ line behind front follows.
    let first = front_is line behind c.args.rest.now c.in-Some.at front.is front.text_is c.in-Some.ensures.0 c.in-Some.ensures.1 in
    c.in_default-2.not-Some line (c.in_ok-line.ensures.reads_back line front.is (c.split_at.ensures.front ∙ first))

pub returns : goal.returns
returns c = λ line behind front follows.
    let first = front_is line behind c.args.rest.now c.in-Some.at front.is front.text_is c.in-Some.ensures.0 c.in-Some.ensures.1 in
    let found : c.in_ok-line.field-0 ≡ Some line = c.in_ok-line.ensures.reads_back line front.is (c.split_at.ensures.front ∙ first) in
    let same : c.in-Some-2.line ≡ line = cc (found, c.in-Some-2.is) in
    let told = c.can_follow.ensures.value.1 (subst (λ (l : Line). CanFollow c.args.volume c.args.before.now l) (sym same) follows) in
    cc (told, c.if-can_follow.false)
