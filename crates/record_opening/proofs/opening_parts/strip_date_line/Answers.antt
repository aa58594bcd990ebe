use Rattle.std.proofs.Common.{◌≡◌, ◌++◌, subst, ◌∙◌}
use Rattle.std.specs.Prelude.{IfErr, IfOk, codes}
use Rattle.std.proofs.lemmas.Result.{OkIff-at_ok}
use Rattle.time_text.specs.Texts.{InRange, warc_date}
use Rattle.warc_text.specs.Lines.{date_field, date_line, field}
use Rattle.record_opening.specs.steps.OpeningFronts.{marked}
use Rattle.record_opening.specs.Stops.{Differs}
use Rattle.record_opening.proofs.opening_parts.strip_date_line.Goals as goal

pub returns-clause-ok : goal.returns-clause-ok
unfolding date_line date_field field marked
returns-clause-ok c =
    let text : c.as_slice.result.now ≡ warc_date c.args.date =
    c.as_slice.ensures ∙ (OkIff-at_ok c.write_warc.result (InRange c.args.date) (warc_date c.args.date) c.in-Ok.text c.write_warc.ensures c.in-Ok.is).1 in
    subst (λ t. IfOk c.strip_field.result (λ rest. c.args.bytes.now ≡ marked (codes "WARC-Date: ") t ++ rest.now)) text c.strip_field.ensures.ok

pub returns-clause-err : goal.returns-clause-err
unfolding date_line date_field field marked
returns-clause-err c =
    let text : c.as_slice.result.now ≡ warc_date c.args.date =
    c.as_slice.ensures ∙ (OkIff-at_ok c.write_warc.result (InRange c.args.date) (warc_date c.args.date) c.in-Ok.text c.write_warc.ensures c.in-Ok.is).1 in
    subst (λ t. IfErr c.strip_field.result (λ stop. Differs stop c.args.bytes.now (marked (codes "WARC-Date: ") t))) text c.strip_field.ensures.err
