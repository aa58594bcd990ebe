use Rattle.std.proofs.Common.{refl}
use Rattle.record_opening.specs.Openings.{IsOpening, opening_text, reference_of}
use Rattle.record_opening.specs.Stops.{NoneStands}
use Rattle.record_opening.proofs.Exits.{at_exit}
use Rattle.record_opening.proofs.OpeningKinds.{end_refused, revisit_front_refused, revisit_stands}
use Rattle.record_opening.proofs.opening.read_revisit.Goals as goal

pub returns-in_err-common-clause-err : goal.returns-in_err-common-clause-err
returns-in_err-common-clause-err c =
    at_exit (λ s. NoneStands IsOpening (opening_text c.args.id.now) s c.args.bytes.now) _ c.from_residual.result c.from_residual.ensures.1
    (revisit_front_refused c.args.id.now _ c.args.bytes.now c.requires c.in_err-common.ensures.err)

pub returns-in-Err-clause-err : goal.returns-in-Err-clause-err
returns-in-Err-clause-err c =
    let common = c.in_ok-common.common in
    end_refused c.args.id.now c.in-Err.stop c.args.bytes.now common.rest.now common.date common.uri.now common.digest c.requires c.in_ok-common.ensures.date c.in_ok-common.ensures.target
    c.in_ok-common.ensures.digest c.in_ok-common.ensures.ok c.in-Err.ensures.err

pub returns-clause-right : goal.returns-clause-right
returns-clause-right c = record {
  date_is = c.in_ok-common.ensures.date;
  target = c.in_ok-common.ensures.target;
  digest_is = c.in_ok-common.ensures.digest;
  refers = c.in-Ok.ensures.revisited;
  whole = refl;
}

pub returns-clause-ok : goal.returns-clause-ok
returns-clause-ok c =
    let common = c.in_ok-common.common in
    revisit_stands c.args.id.now c.args.bytes.now common.rest.now c.in-Ok.read.1.now common.date common.uri.now common.digest (reference_of c.in-Ok.read.0)
    c.in_ok-common.ensures.ok c.in-Ok.ensures.ok
