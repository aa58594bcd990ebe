use Rattle.std.proofs.Common.{true, Err, refl, sym, ap, subst, ◌∙◌}
use Rattle.std.proofs.lemmas.Bool.{false≢true}
use Rattle.capture.proofs.PayloadLaws.{one_payload}
use Rattle.record_opening.proofs.Exits.{at_wrong_exit}
use Rattle.warc_scan.specs.steps.Digests.{HasDigest}
use Rattle.warc_scan.proofs.AnswerHeads.{begins_at_once}
use Rattle.warc_scan.proofs.AnswerParts.{cut_is, cut_len, cut_long, cut_other, cut_untold, digest_found}
use Rattle.warc_scan.proofs.answer.cut_response.Goals as goal

pub is_short_head-requires : goal.is_short_head-requires
is_short_head-requires c = record {
  ends = c.requires.ends;
  at_once = begins_at_once c.args.parts.now.head.now c.requires.holds.0 c.requires.holds.1.reads;
}

pub returns-then-not-is_short_head-clause-wrong : goal.returns-then-not-is_short_head-clause-wrong
returns-then-not-is_short_head-clause-wrong c = λ is response.
    cut_long c.args.method.now c.args.parts.now c.args.digest.now
    (λ short. false≢true (sym c.if-not-is_short_head.true ∙ c.is_short_head.ensures.1 short)) response

pub returns-in-Err-clause-wrong : goal.returns-in-Err-clause-wrong
returns-in-Err-clause-wrong c = λ is response.
    cut_untold c.args.method.now c.args.parts.now c.in-Err.field-0 c.args.digest.now c.requires c.in-Err.ensures response

pub returns-in_err-found-clause-wrong : goal.returns-in_err-found-clause-wrong
returns-in_err-found-clause-wrong c =
    at_wrong_exit _ _ c.from_residual.result c.from_residual.ensures.1 (λ is response.
    cut_other c.args.method.now c.args.parts.now c.in-Ok.framing c.args.digest.now c.requires c.in-Ok.ensures
    (c.in_err-found.ensures.wrong (ap (λ e. Err e) is)) response)

pub returns-then-not-is_same-clause-wrong : goal.returns-then-not-is_same-clause-wrong
returns-then-not-is_same-clause-wrong c = λ is response.
    let same = digest_found one_payload true c.args.method.now c.args.parts.now c.in-Ok.framing c.in_ok-found.found.digest
    c.args.digest.now c.requires c.in-Ok.ensures c.in_ok-found.ensures.digest response in
    false≢true (sym c.if-not-is_same.true ∙ c.is_same.ensures.1 same)

pub returns-clause-ok : goal.returns-clause-ok
returns-clause-ok c =
    let same = c.is_same.ensures.0 c.if-not-is_same.false in
    let told = c.in_ok-found.ensures in
    let response = cut_is c.args.method.now c.args.parts.now c.in-Ok.framing c.args.digest.now c.requires (c.is_short_head.ensures.0 c.if-not-is_short_head.false) c.in-Ok.ensures told.wire
    (subst (HasDigest true c.in-Ok.framing c.args.parts.now.wire.now) same told.digest) in
    (refl, response, cut_len c.args.method.now c.args.parts.now c.in-Ok.framing c.in_ok-found.found.len c.requires c.in-Ok.ensures told.wire told.length)
