use Rattle.std.proofs.Common.{refl}
use Rattle.std.proofs.lemmas.Result.{IfOk-weaker}
use Rattle.capture.proofs.HeadLaws.{response_heads_end}
use Rattle.warc_scan.proofs.AnswerParts.{no_cut, no_revisit, no_whole, told_cut, told_revisit, told_whole}
use Rattle.warc_scan.proofs.answer.tell.Goals as goal

pub returns-in-Some-clause-ok : goal.returns-in-Some-clause-ok
returns-in-Some-clause-ok c =
    IfOk-weaker c.revisit.result _ _ (λ told is.
    told_revisit c.args.method.now c.args.parts.now c.args.opening.now c.in-Some.field-0 told c.requires.right c.in-Some.is is.0 is.1 is.2) c.revisit.ensures.ok

pub returns-in-Some-clause-wrong : goal.returns-in-Some-clause-wrong
returns-in-Some-clause-wrong c = λ is.
    no_revisit response_heads_end c.args.method.now _ c.args.opening.now c.args.parts.now c.requires.parts
    refl c.in-Some.field-0 c.in-Some.is (c.revisit.ensures.wrong is)

pub returns-then-opening-clause-wrong : goal.returns-then-opening-clause-wrong
returns-then-opening-clause-wrong c = λ is.
    no_cut response_heads_end c.args.method.now _ c.args.opening.now c.args.parts.now c.requires.parts
    refl c.in-None.is c.if-opening.true (c.cut_response.ensures.wrong is)

pub returns-else-opening-clause-wrong : goal.returns-else-opening-clause-wrong
returns-else-opening-clause-wrong c = λ is.
    no_whole response_heads_end c.args.method.now _ c.args.opening.now c.args.parts.now c.requires.parts
    refl c.in-None.is c.if-opening.false (c.whole_response.ensures.wrong is)

pub returns-then-opening-clause-ok : goal.returns-then-opening-clause-ok
returns-then-opening-clause-ok c =
    IfOk-weaker c.cut_response.result _ _ (λ told is.
    told_cut c.args.method.now c.args.parts.now c.args.opening.now told c.in-None.is c.if-opening.true is.0 is.1 is.2) c.cut_response.ensures.ok

pub returns-else-opening-clause-ok : goal.returns-else-opening-clause-ok
returns-else-opening-clause-ok c =
    IfOk-weaker c.whole_response.result _ _ (λ told is.
    told_whole c.args.method.now c.args.parts.now c.args.opening.now told c.in-None.is c.if-opening.false is.0 is.1 is.2) c.whole_response.ensures.ok
