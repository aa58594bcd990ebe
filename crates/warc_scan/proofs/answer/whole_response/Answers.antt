use Rattle.std.proofs.Common.{false, Err, refl, sym, ap, subst, ◌∙◌, arith}
use Rattle.std.proofs.lemmas.Bool.{false≢true}
use Rattle.capture.proofs.PayloadLaws.{one_payload}
use Rattle.record_opening.proofs.Exits.{at_wrong_exit}
use Rattle.warc_scan.specs.steps.Digests.{HasDigest}
use Rattle.warc_scan.proofs.AnswerParts.{digest_found, whole_is, whole_len, whole_other, whole_untold}
use Rattle.warc_scan.proofs.answer.whole_response.Goals as goal

pub returns-in-Err-clause-wrong : goal.returns-in-Err-clause-wrong
returns-in-Err-clause-wrong c = λ is response.
    whole_untold c.args.method.now c.args.parts.now c.in-Err.field-0 c.args.digest.now c.requires (omega arith) c.in-Err.ensures response

pub returns-in_err-found-clause-wrong : goal.returns-in_err-found-clause-wrong
returns-in_err-found-clause-wrong c =
    at_wrong_exit _ _ c.from_residual.result c.from_residual.ensures.1 (λ is response.
    whole_other c.args.method.now c.args.parts.now c.in-Ok.framing c.args.digest.now c.requires c.in-Ok.ensures
    (c.in_err-found.ensures.wrong (ap (λ e. Err e) is)) response)

pub returns-then-not-is_same-clause-wrong : goal.returns-then-not-is_same-clause-wrong
returns-then-not-is_same-clause-wrong c = λ is response.
    let same = digest_found one_payload false c.args.method.now c.args.parts.now c.in-Ok.framing c.in_ok-found.found.digest
    c.args.digest.now c.requires c.in-Ok.ensures c.in_ok-found.ensures.digest response in
    false≢true (sym c.if-not-is_same.true ∙ c.is_same.ensures.1 same)

pub returns-clause-ok : goal.returns-clause-ok
returns-clause-ok c =
    let same = c.is_same.ensures.0 c.if-not-is_same.false in
    let told = c.in_ok-found.ensures in
    let response = whole_is c.args.method.now c.args.parts.now c.in-Ok.framing c.args.digest.now c.requires c.in-Ok.ensures told.wire
    (subst (HasDigest false c.in-Ok.framing c.args.parts.now.wire.now) same told.digest) in
    (refl, response, whole_len c.args.method.now c.args.parts.now c.in-Ok.framing c.in_ok-found.found.len c.requires c.in-Ok.ensures told.wire told.length)
