use Rattle.std.proofs.Common.{sym, ◌∙◌}
use Rattle.std.proofs.lemmas.Bool.{false≢true}
use Rattle.warc_scan.proofs.AnswerParts.{told_in, told_of_body}
use Rattle.warc_scan.proofs.answer.revisit.Goals as goal

pub returns-then-not-tells_body-clause-wrong : goal.returns-then-not-tells_body-clause-wrong
returns-then-not-tells_body-clause-wrong c = λ is tells.
    let told = told_in c.args.method.now c.args.parts.now in
    false≢true (sym c.if-not-tells_body.true
    ∙ (c.tells_body.ensures told c.told_framing.ensures).1 (told_of_body c.args.method.now c.args.parts.now c.requires tells))
