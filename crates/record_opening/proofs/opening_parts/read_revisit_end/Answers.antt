use Rattle.std.proofs.Common.{inr, refl}
use Rattle.warc_text.specs.Lines.{date_field, field, refers_date_line, refers_line, refers_target_line}
use Rattle.warc_text.specs.Records.{revisit_end}
use Rattle.record_opening.specs.Openings.{IsRevisited}
use Rattle.record_opening.specs.steps.OpeningFronts.{marked}
use Rattle.record_opening.specs.Stops.{NoneStands}
use Rattle.record_opening.proofs.Exits.{at_exit}
use Rattle.record_opening.proofs.RevisitEnds.{content_refused, end_stands, id_refused, profile_refused, refers_date_refused, refers_stand, refers_target_refused}
use Rattle.record_opening.proofs.opening_parts.read_revisit_end.Goals as goal

pub returns-in-Err-clause-err : goal.returns-in-Err-clause-err
unfolding refers_line
returns-in-Err-clause-err c = id_refused c.in-Err.stop c.args.bytes.now c.in-Err.ensures.err

pub returns-in_err-uri-clause-err : goal.returns-in_err-uri-clause-err
unfolding refers_line refers_target_line refers_date_line date_field field marked
returns-in_err-uri-clause-err c =
    at_exit (λ s. NoneStands IsRevisited revisit_end s c.args.bytes.now) _ c.from_residual.result c.from_residual.ensures.1
    (refers_target_refused _ c.args.bytes.now c.in-Ok.read.1.now c.in-Ok.read.0 c.in-Ok.ensures.ok.0 c.in-Ok.ensures.ok.1 c.in_err-uri.ensures.err)

pub returns-in_err-date-clause-err : goal.returns-in_err-date-clause-err
unfolding refers_line refers_target_line refers_date_line date_field field marked
returns-in_err-date-clause-err c =
    at_exit (λ s. NoneStands IsRevisited revisit_end s c.args.bytes.now) _ c.from_residual-in_err-date.result c.from_residual-in_err-date.ensures.1
    (refers_date_refused _ c.args.bytes.now c.in-Ok.read.1.now c.in_ok-uri.dated.now c.in-Ok.read.0 c.in_ok-uri.uri.now c.in-Ok.ensures.ok.0 c.in_ok-uri.ensures.ok.0
    c.in-Ok.ensures.ok.1 c.in_ok-uri.ensures.ok.1 c.in_err-date.ensures.err)

pub returns-in_err-typed-clause-err : goal.returns-in_err-typed-clause-err
unfolding refers_line refers_target_line refers_date_line date_field field marked
returns-in_err-typed-clause-err c =
    at_exit (λ s. NoneStands IsRevisited revisit_end s c.args.bytes.now) _ c.from_residual-in_err-typed.result c.from_residual-in_err-typed.ensures.1
    (profile_refused _ c.args.bytes.now c.in_ok-date.profiled.now
    (record { id = c.in-Ok.read.0; uri = c.in_ok-uri.uri.now; date = c.in_ok-date.date })
    (record { id_is = c.in-Ok.ensures.ok.0; target = c.in_ok-uri.ensures.ok.0; date_is = c.in_ok-date.ensures.ok.0 })
    (refers_stand c.args.bytes.now c.in-Ok.read.1.now c.in_ok-uri.dated.now c.in_ok-date.profiled.now
    (record { id = c.in-Ok.read.0; uri = c.in_ok-uri.uri.now; date = c.in_ok-date.date })
    c.in-Ok.ensures.ok.1 c.in_ok-uri.ensures.ok.1 c.in_ok-date.ensures.ok.1) c.in_err-typed.ensures.err)

pub returns-in_err-rest-clause-err : goal.returns-in_err-rest-clause-err
unfolding refers_line refers_target_line refers_date_line date_field field marked
returns-in_err-rest-clause-err c =
    at_exit (λ s. NoneStands IsRevisited revisit_end s c.args.bytes.now) _ c.from_residual-in_err-rest.result c.from_residual-in_err-rest.ensures.1
    (content_refused _ c.args.bytes.now c.in_ok-date.profiled.now c.in_ok-typed.typed.now
    (record { id = c.in-Ok.read.0; uri = c.in_ok-uri.uri.now; date = c.in_ok-date.date })
    (record { id_is = c.in-Ok.ensures.ok.0; target = c.in_ok-uri.ensures.ok.0; date_is = c.in_ok-date.ensures.ok.0 })
    (refers_stand c.args.bytes.now c.in-Ok.read.1.now c.in_ok-uri.dated.now c.in_ok-date.profiled.now
    (record { id = c.in-Ok.read.0; uri = c.in_ok-uri.uri.now; date = c.in_ok-date.date })
    c.in-Ok.ensures.ok.1 c.in_ok-uri.ensures.ok.1 c.in_ok-date.ensures.ok.1)
    c.in_ok-typed.ensures.ok c.in_err-rest.ensures.err)

pub returns-clause-ok : goal.returns-clause-ok
unfolding refers_line refers_target_line refers_date_line date_field field marked
returns-clause-ok c =
    end_stands c.args.bytes.now c.in_ok-date.profiled.now c.in_ok-typed.typed.now c.in_ok-rest.rest.now
    (record { id = c.in-Ok.read.0; uri = c.in_ok-uri.uri.now; date = c.in_ok-date.date })
    (refers_stand c.args.bytes.now c.in-Ok.read.1.now c.in_ok-uri.dated.now c.in_ok-date.profiled.now
    (record { id = c.in-Ok.read.0; uri = c.in_ok-uri.uri.now; date = c.in_ok-date.date })
    c.in-Ok.ensures.ok.1 c.in_ok-uri.ensures.ok.1 c.in_ok-date.ensures.ok.1)
    c.in_ok-typed.ensures.ok c.in_ok-rest.ensures.ok

pub read_date_field-requires : goal.read_date_field-requires
read_date_field-requires c = inr refl

pub read_target_field-requires : goal.read_target_field-requires
read_target_field-requires c = inr refl
