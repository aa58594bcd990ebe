use Rattle.std.proofs.Common.{[], inl, inr, refl}
use Rattle.std.specs.Prelude.{codes}
use Rattle.warc_text.specs.Ids.{IsUuid, id_of, uuid_text}
use Rattle.warc_text.specs.Lines.{refers_line}
use Rattle.warc_text.specs.declared.id.IdKind.TheVariants.{Info}
use Rattle.record_opening.specs.OpenValues.{IsPartOfUuid, refers_mark}
use Rattle.record_opening.specs.Stops.{NoneStands}
use Rattle.record_opening.proofs.Exits.{at_exit}
use Rattle.record_opening.proofs.Pieces.{at_value, before_value, behind_value, three}
use Rattle.record_opening.proofs.RevisitEnds.{id_stands, ids_refused}
use Rattle.record_opening.proofs.Samples.{some_id_is}
use Rattle.record_opening.proofs.UuidFronts.{uuid_told}
use Rattle.record_opening.proofs.opening_parts.read_refers_line.Goals as goal

pub returns-in_err-given-clause-err : goal.returns-in_err-given-clause-err
returns-in_err-given-clause-err c =
    at_exit (λ s. NoneStands IsUuid refers_line s c.args.bytes.now) _ c.from_residual.result c.from_residual.ensures.1
    (ids_refused _ c.args.bytes.now
    (before_value IsUuid uuid_text _ refers_mark (codes ">\r\n") c.args.bytes.now (id_of [] Info 0) some_id_is c.in_err-given.ensures.err))

pub returns-in-Err-clause-err : goal.returns-in-Err-clause-err
returns-in-Err-clause-err c =
    ids_refused c.in-Err.stop c.args.bytes.now
    (at_value IsUuid uuid_text c.in-Err.stop refers_mark (codes ">\r\n") c.args.bytes.now IsPartOfUuid
    c.in_ok-given.given.now (λ part. inr (inr (inr (inl (inl refl, part))))) c.in_ok-given.ensures.ok c.in-Err.ensures.err)

pub returns-in_err-rest-clause-err : goal.returns-in_err-rest-clause-err
returns-in_err-rest-clause-err c =
    let read = c.in-Ok.ensures.ok in
    at_exit (λ s. NoneStands IsUuid refers_line s c.args.bytes.now) _ c.from_residual-in_err-rest.result c.from_residual-in_err-rest.ensures.1
    (ids_refused _ c.args.bytes.now
    (behind_value IsUuid uuid_text _ refers_mark (codes ">\r\n") c.args.bytes.now
    c.in_ok-given.given.now c.in-Ok.read.1.now _ read.0 (uuid_told _ read.0) c.in_ok-given.ensures.ok read.1 c.in_err-rest.ensures.err))

pub returns-clause-ok : goal.returns-clause-ok
returns-clause-ok c =
    let read = c.in-Ok.ensures.ok in (
      read.0,
      id_stands c.args.bytes.now c.in_ok-rest.rest.now _
          (three refers_mark (uuid_text _) (codes ">\r\n") c.args.bytes.now
          c.in_ok-given.given.now c.in-Ok.read.1.now c.in_ok-rest.rest.now c.in_ok-given.ensures.ok read.1 c.in_ok-rest.ensures.ok),
    )
