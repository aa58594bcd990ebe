use Rattle.std.proofs.Common.{inl, refl}
use Rattle.warc_text.specs.Lines.{date_field, date_line, digest_line, field, target_line}
use Rattle.record_opening.specs.Openings.{IsOpening}
use Rattle.record_opening.specs.steps.OpeningFronts.{front_text, marked, start_text}
use Rattle.record_opening.specs.Stops.{NoneStands}
use Rattle.record_opening.proofs.CommonFronts.{date_refused, digest_refused, start_refused, target_refused}
use Rattle.record_opening.proofs.Exits.{at_exit}
use Rattle.record_opening.proofs.Pieces.{four}
use Rattle.record_opening.proofs.opening_parts.read_common.Goals as goal

pub returns-in_err-dated-clause-err : goal.returns-in_err-dated-clause-err
returns-in_err-dated-clause-err c =
    at_exit (λ s. NoneStands IsOpening (λ o. front_text c.args.word.now c.args.id.now o.date o.uri o.digest) s c.args.bytes.now) _
    c.from_residual.result c.from_residual.ensures.1
    (start_refused c.args.word.now c.args.id.now _ c.args.bytes.now c.in_err-dated.ensures.err)

pub returns-in_err-date-clause-err : goal.returns-in_err-date-clause-err
unfolding date_line date_field field marked
returns-in_err-date-clause-err c =
    at_exit (λ s. NoneStands IsOpening (λ o. front_text c.args.word.now c.args.id.now o.date o.uri o.digest) s c.args.bytes.now) _
    c.from_residual-in_err-date.result c.from_residual-in_err-date.ensures.1
    (date_refused c.args.word.now c.args.id.now _ c.args.bytes.now c.in_ok-dated.dated.now c.in_ok-dated.ensures.ok c.in_err-date.ensures.err)

pub returns-in_err-uri-clause-err : goal.returns-in_err-uri-clause-err
unfolding date_line target_line date_field field marked
returns-in_err-uri-clause-err c =
    at_exit (λ s. NoneStands IsOpening (λ o. front_text c.args.word.now c.args.id.now o.date o.uri o.digest) s c.args.bytes.now) _
    c.from_residual-in_err-uri.result c.from_residual-in_err-uri.ensures.1
    (target_refused c.args.word.now c.args.id.now _ c.args.bytes.now c.in_ok-dated.dated.now c.in_ok-date.aimed.now c.in_ok-date.date c.in_ok-date.ensures.ok.0
    c.in_ok-dated.ensures.ok c.in_ok-date.ensures.ok.1 c.in_err-uri.ensures.err)

pub returns-in_err-digest-clause-err : goal.returns-in_err-digest-clause-err
unfolding date_line target_line date_field field marked
returns-in_err-digest-clause-err c =
    at_exit (λ s. NoneStands IsOpening (λ o. front_text c.args.word.now c.args.id.now o.date o.uri o.digest) s c.args.bytes.now) _
    c.from_residual-in_err-digest.result c.from_residual-in_err-digest.ensures.1
    (digest_refused c.args.word.now c.args.id.now _ c.args.bytes.now c.in_ok-dated.dated.now c.in_ok-date.aimed.now c.in_ok-uri.digested.now c.in_ok-date.date c.in_ok-uri.uri.now
    c.in_ok-date.ensures.ok.0 c.in_ok-uri.ensures.ok.0 c.in_ok-dated.ensures.ok c.in_ok-date.ensures.ok.1 c.in_ok-uri.ensures.ok.1 c.in_err-digest.ensures.err)

pub returns-clause-ok : goal.returns-clause-ok
unfolding date_line target_line date_field field marked
returns-clause-ok c =
    four (start_text c.args.word.now c.args.id.now) (date_line c.in_ok-date.date) (target_line c.in_ok-uri.uri.now) (digest_line c.in_ok-digest.digest)
    c.args.bytes.now c.in_ok-dated.dated.now c.in_ok-date.aimed.now c.in_ok-uri.digested.now c.in_ok-digest.rest.now
    c.in_ok-dated.ensures.ok c.in_ok-date.ensures.ok.1 c.in_ok-uri.ensures.ok.1 c.in_ok-digest.ensures.ok.1

pub read_date_field-requires : goal.read_date_field-requires
read_date_field-requires c = inl refl

pub read_target_field-requires : goal.read_target_field-requires
read_target_field-requires c = inl refl
