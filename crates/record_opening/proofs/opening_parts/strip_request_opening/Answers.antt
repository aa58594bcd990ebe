use Rattle.std.specs.Prelude.{codes}
use Rattle.std.proofs.lemmas.Result.{IfErr-weaker, IfOk-weaker}
use Rattle.warc_text.specs.Lines.{concurrent_line, content_line, date_line, field, opening, target_line, type_line}
use Rattle.warc_text.specs.Records.{request_opening}
use Rattle.warc_text.specs.declared.kind.RecordKind.TheVariants as kinds
use Rattle.record_opening.specs.steps.OpeningFronts.{marked, start_text}
use Rattle.record_opening.specs.Stops.{Differs}
use Rattle.record_opening.proofs.Exits.{at_exit}
use Rattle.record_opening.proofs.FivePieces.{fifth_of_five, first_of_five, five, fourth_of_five, second_of_five, third_of_five}
use Rattle.record_opening.proofs.opening_parts.strip_request_opening.Goals as goal

pub returns-in_err-dated-clause-err : goal.returns-in_err-dated-clause-err
unfolding request_opening opening type_line target_line field marked
returns-in_err-dated-clause-err c =
    at_exit (λ s. Differs s c.args.bytes.now (request_opening c.args.id.now c.args.answer_id.now c.args.date c.args.uri.now)) _ c.from_residual.result c.from_residual.ensures.1
    (first_of_five _ (start_text (codes "request") c.args.id.now) (date_line c.args.date) (target_line c.args.uri.now) (concurrent_line c.args.answer_id.now) (content_line kinds.Request) c.args.bytes.now
    c.in_err-dated.ensures.err)

pub returns-in_err-aimed-clause-err : goal.returns-in_err-aimed-clause-err
unfolding request_opening opening type_line target_line field marked
returns-in_err-aimed-clause-err c =
    at_exit (λ s. Differs s c.args.bytes.now (request_opening c.args.id.now c.args.answer_id.now c.args.date c.args.uri.now)) _ c.from_residual-in_err-aimed.result c.from_residual-in_err-aimed.ensures.1
    (second_of_five _ (start_text (codes "request") c.args.id.now) (date_line c.args.date) (target_line c.args.uri.now) (concurrent_line c.args.answer_id.now) (content_line kinds.Request) c.args.bytes.now c.in_ok-dated.dated.now
    c.in_ok-dated.ensures.ok c.in_err-aimed.ensures.err)

pub returns-in_err-joined-clause-err : goal.returns-in_err-joined-clause-err
unfolding request_opening opening type_line target_line field marked
returns-in_err-joined-clause-err c =
    at_exit (λ s. Differs s c.args.bytes.now (request_opening c.args.id.now c.args.answer_id.now c.args.date c.args.uri.now)) _ c.from_residual-in_err-joined.result c.from_residual-in_err-joined.ensures.1
    (third_of_five _ (start_text (codes "request") c.args.id.now) (date_line c.args.date) (target_line c.args.uri.now) (concurrent_line c.args.answer_id.now) (content_line kinds.Request) c.args.bytes.now c.in_ok-dated.dated.now c.in_ok-aimed.aimed.now
    c.in_ok-dated.ensures.ok c.in_ok-aimed.ensures.ok c.in_err-joined.ensures.err)

pub returns-in_err-typed-clause-err : goal.returns-in_err-typed-clause-err
unfolding request_opening opening type_line target_line field marked
returns-in_err-typed-clause-err c =
    at_exit (λ s. Differs s c.args.bytes.now (request_opening c.args.id.now c.args.answer_id.now c.args.date c.args.uri.now)) _ c.from_residual-in_err-typed.result c.from_residual-in_err-typed.ensures.1
    (fourth_of_five _ (start_text (codes "request") c.args.id.now) (date_line c.args.date) (target_line c.args.uri.now) (concurrent_line c.args.answer_id.now) (content_line kinds.Request) c.args.bytes.now c.in_ok-dated.dated.now c.in_ok-aimed.aimed.now c.in_ok-joined.joined.now
    c.in_ok-dated.ensures.ok c.in_ok-aimed.ensures.ok c.in_ok-joined.ensures.ok c.in_err-typed.ensures.err)

pub returns-clause-ok : goal.returns-clause-ok
unfolding request_opening opening type_line target_line field marked
returns-clause-ok c =
    IfOk-weaker c.strip_request_content.result _ _ (λ rest e. five (start_text (codes "request") c.args.id.now) (date_line c.args.date) (target_line c.args.uri.now) (concurrent_line c.args.answer_id.now) (content_line kinds.Request) c.args.bytes.now c.in_ok-dated.dated.now c.in_ok-aimed.aimed.now c.in_ok-joined.joined.now c.in_ok-typed.typed.now rest.now
    c.in_ok-dated.ensures.ok c.in_ok-aimed.ensures.ok c.in_ok-joined.ensures.ok c.in_ok-typed.ensures.ok e) c.strip_request_content.ensures.ok

pub returns-clause-err : goal.returns-clause-err
unfolding request_opening opening type_line target_line field marked
returns-clause-err c =
    IfErr-weaker c.strip_request_content.result _ _ (λ stop d. fifth_of_five stop (start_text (codes "request") c.args.id.now) (date_line c.args.date) (target_line c.args.uri.now) (concurrent_line c.args.answer_id.now) (content_line kinds.Request) c.args.bytes.now c.in_ok-dated.dated.now c.in_ok-aimed.aimed.now c.in_ok-joined.joined.now c.in_ok-typed.typed.now
    c.in_ok-dated.ensures.ok c.in_ok-aimed.ensures.ok c.in_ok-joined.ensures.ok c.in_ok-typed.ensures.ok d) c.strip_request_content.ensures.err
