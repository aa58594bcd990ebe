use Rattle.std.proofs.Common.{◌≡◌, ◌+◌, decimal, length, ap, ◌∙◌}
use Rattle.std.proofs.lemmas.Result.{IfErr-weaker, IfOk-weaker}
use Rattle.warc_text.specs.Lengths.{info_block_length}
use Rattle.record_opening.specs.InfoParts.{info_middle}
use Rattle.record_opening.specs.Stops.{Differs}
use Rattle.record_opening.proofs.Exits.{at_exit}
use Rattle.record_opening.proofs.InfoFronts.{first_of_middle, middle_stands, second_of_middle, third_of_middle}
use Rattle.record_opening.proofs.scan_info.strip_middle.Goals as goal

pub returns-in_err-given-clause-err : goal.returns-in_err-given-clause-err
returns-in_err-given-clause-err c =
    at_exit (λ s. Differs s c.args.bytes.now (info_middle c.args.volume)) _ c.from_residual.result c.from_residual.ensures.1
    (first_of_middle c.args.volume _ c.args.bytes.now c.in_err-given.ensures.err)

pub returns-in_err-end-clause-err : goal.returns-in_err-end-clause-err
returns-in_err-end-clause-err c =
    let told : c.as_bytes.result.now ≡ decimal (info_block_length c.args.volume) =
    c.as_bytes.ensures.value ∙ c.format-told.ensures.text ∙ ap (λ d. decimal (115 + length d)) c.format.ensures.text in
    at_exit (λ s. Differs s c.args.bytes.now (info_middle c.args.volume)) _ c.from_residual-in_err-end.result c.from_residual-in_err-end.ensures.1
    (second_of_middle c.args.volume _ c.args.bytes.now c.in_ok-given.given.now c.as_bytes.result.now told c.in_ok-given.ensures.ok c.in_err-end.ensures.err)

pub returns-clause-ok : goal.returns-clause-ok
returns-clause-ok c =
    let told : c.as_bytes.result.now ≡ decimal (info_block_length c.args.volume) =
    c.as_bytes.ensures.value ∙ c.format-told.ensures.text ∙ ap (λ d. decimal (115 + length d)) c.format.ensures.text in
    IfOk-weaker c.strip-3.result _ _ (λ rest e. middle_stands c.args.volume c.args.bytes.now c.in_ok-given.given.now c.in_ok-end.end.now rest.now
    c.as_bytes.result.now told c.in_ok-given.ensures.ok c.in_ok-end.ensures.ok e) c.strip-3.ensures.ok

pub returns-clause-err : goal.returns-clause-err
returns-clause-err c =
    let told : c.as_bytes.result.now ≡ decimal (info_block_length c.args.volume) =
    c.as_bytes.ensures.value ∙ c.format-told.ensures.text ∙ ap (λ d. decimal (115 + length d)) c.format.ensures.text in
    IfErr-weaker c.strip-3.result _ _ (λ stop d. third_of_middle c.args.volume stop c.args.bytes.now c.in_ok-given.given.now c.in_ok-end.end.now
    c.as_bytes.result.now told c.in_ok-given.ensures.ok c.in_ok-end.ensures.ok d) c.strip-3.ensures.err
