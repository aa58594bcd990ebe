use Rattle.record_opening.specs.Openings.{IsOpening, opening_text}
use Rattle.record_opening.specs.Stops.{NoneStands}
use Rattle.record_opening.proofs.Exits.{at_exit}
use Rattle.record_opening.proofs.OpeningKinds.{cut_refused, response_front_refused, response_stands}
use Rattle.record_opening.proofs.opening.read_response.Goals as goal

pub returns-in_err-common-clause-err : goal.returns-in_err-common-clause-err
returns-in_err-common-clause-err c =
    at_exit (λ s. NoneStands IsOpening (opening_text c.args.id.now) s c.args.bytes.now) _ c.from_residual.result c.from_residual.ensures.1
    (response_front_refused c.args.id.now _ c.args.bytes.now c.requires c.in_err-common.ensures.err)

pub returns-in_err-cut-clause-err : goal.returns-in_err-cut-clause-err
returns-in_err-cut-clause-err c =
    let common = c.in_ok-common.common in
    at_exit (λ s. NoneStands IsOpening (opening_text c.args.id.now) s c.args.bytes.now) _ c.from_residual-in_err-cut.result c.from_residual-in_err-cut.ensures.1
    (cut_refused c.args.id.now _ c.args.bytes.now common.rest.now common.date common.uri.now common.digest c.requires c.in_ok-common.ensures.date c.in_ok-common.ensures.target
    c.in_ok-common.ensures.digest c.in_ok-common.ensures.ok c.in_err-cut.ensures.err)

pub returns-clause-right : goal.returns-clause-right
returns-clause-right c =
    record { date_is = c.in_ok-common.ensures.date; target = c.in_ok-common.ensures.target; digest_is = c.in_ok-common.ensures.digest; refers = tt; whole = tt }

pub returns-clause-ok : goal.returns-clause-ok
returns-clause-ok c =
    let common = c.in_ok-common.common in
    response_stands c.args.id.now c.args.bytes.now common.rest.now c.in_ok-cut.rest.now common.date common.uri.now common.digest c.in_ok-cut.cut
    c.in_ok-common.ensures.ok c.in_ok-cut.ensures.ok
