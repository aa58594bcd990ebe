use Rattle.std.proofs.Common.{[], inl, inr, length, length-append, refl, ap, Err, arith}
use Rattle.std.specs.Prelude.{codes}
use Rattle.warc_text.specs.Ids.{IsUuid, id_of, uuid_text}
use Rattle.warc_text.specs.Lines.{date_field, date_line, field}
use Rattle.warc_text.specs.declared.id.IdKind.TheVariants.{Info}
use Rattle.warc_text.proofs.LengthLaws.{length-uuid_text}
use Rattle.record_opening.specs.steps.InfoFronts.{IsInfoFront, front_of_info}
use Rattle.record_opening.specs.OpenValues.{IsPartOfUuid, info_mark}
use Rattle.record_opening.specs.steps.OpeningFronts.{marked}
use Rattle.record_opening.specs.Stops.{NoneStands}
use Rattle.record_opening.proofs.Exits.{at_exit, at_open_exit}
use Rattle.record_opening.proofs.InfoFronts.{date_refused, front_stands, id_refused}
use Rattle.record_opening.proofs.Pieces.{at_value, before_value, behind_value, three}
use Rattle.record_opening.proofs.Samples.{some_id_is}
use Rattle.record_opening.proofs.UuidFronts.{uuid_told}
use Rattle.record_opening.proofs.scan_info.read_front.Goals as goal

pub returns-in_err-named-clause-err : goal.returns-in_err-named-clause-err
returns-in_err-named-clause-err c =
    at_exit (λ s. NoneStands IsInfoFront front_of_info s c.args.bytes.now) _ c.from_residual.result c.from_residual.ensures.1
    (id_refused _ c.args.bytes.now
    (before_value IsUuid uuid_text _ info_mark (codes ">\r\n") c.args.bytes.now (id_of [] Info 0) some_id_is c.in_err-named.ensures.err))

pub returns-in_err-named-clause-ends : goal.returns-in_err-named-clause-ends
returns-in_err-named-clause-ends c =
    at_open_exit _ _ c.from_residual.result c.from_residual.ensures.1 (λ open_.
    let is = c.in_err-named.ensures.err.ends open_ in
    omega (arith, ap length is.composed, length-append c.args.bytes.now is.behind))

pub returns-in-Err-clause-err : goal.returns-in-Err-clause-err
returns-in-Err-clause-err c =
    id_refused c.in-Err.stop c.args.bytes.now
    (at_value IsUuid uuid_text c.in-Err.stop info_mark (codes ">\r\n") c.args.bytes.now IsPartOfUuid c.in_ok-named.named.now
    (λ part. inr (inr (inr (inl (inr refl, part))))) c.in_ok-named.ensures.ok c.in-Err.ensures.err)

pub returns-in_err-dated-clause-err : goal.returns-in_err-dated-clause-err
returns-in_err-dated-clause-err c =
    let read = c.in-Ok.ensures.ok in
    at_exit (λ s. NoneStands IsInfoFront front_of_info s c.args.bytes.now) _ c.from_residual-in_err-dated.result c.from_residual-in_err-dated.ensures.1
    (id_refused _ c.args.bytes.now
    (behind_value IsUuid uuid_text _ info_mark (codes ">\r\n") c.args.bytes.now c.in_ok-named.named.now c.in-Ok.read.1.now _ read.0 (uuid_told _ read.0)
    c.in_ok-named.ensures.ok read.1 c.in_err-dated.ensures.err))

pub returns-in_err-dated-clause-ends : goal.returns-in_err-dated-clause-ends
returns-in_err-dated-clause-ends c =
    at_open_exit _ _ c.from_residual-in_err-dated.result c.from_residual-in_err-dated.ensures.1 (λ open_.
    let is = c.in_err-dated.ensures.err.ends open_ in
    let end = c.in-Ok.read.1.now in
    omega (
      arith,
      ap length is.composed,
      length-append end is.behind,
      ap length c.in_ok-named.ensures.ok,
      length-append info_mark c.in_ok-named.named.now,
      ap length c.in-Ok.ensures.ok.1,
      length-append (uuid_text c.in-Ok.read.0) end,
      length-uuid_text c.in-Ok.read.0,
    ))

pub returns-in_err-born-clause-err : goal.returns-in_err-born-clause-err
unfolding date_line date_field field marked
returns-in_err-born-clause-err c =
    let read = c.in-Ok.ensures.ok in
    at_exit (λ s. NoneStands IsInfoFront front_of_info s c.args.bytes.now) _ c.from_residual-in_err-born.result c.from_residual-in_err-born.ensures.1
    (date_refused _ c.args.bytes.now c.in_ok-dated.dated.now c.in-Ok.read.0 read.0
    (three info_mark (uuid_text c.in-Ok.read.0) (codes ">\r\n") c.args.bytes.now c.in_ok-named.named.now c.in-Ok.read.1.now c.in_ok-dated.dated.now
    c.in_ok-named.ensures.ok read.1 c.in_ok-dated.ensures.ok)
    c.in_err-born.ensures.err)

pub returns-in_err-born-clause-ends : goal.returns-in_err-born-clause-ends
returns-in_err-born-clause-ends c =
    at_open_exit _ _ c.from_residual-in_err-born.result c.from_residual-in_err-born.ensures.1 (λ open_.
    let few = c.in_err-born.ensures.ends (ap Err open_) in
    let end = c.in-Ok.read.1.now in
    omega (
      arith,
      few,
      ap length c.in_ok-dated.ensures.ok,
      length-append (codes ">\r\n") c.in_ok-dated.dated.now,
      ap length c.in_ok-named.ensures.ok,
      length-append info_mark c.in_ok-named.named.now,
      ap length c.in-Ok.ensures.ok.1,
      length-append (uuid_text c.in-Ok.read.0) end,
      length-uuid_text c.in-Ok.read.0,
    ))

pub returns-clause-ok : goal.returns-clause-ok
unfolding date_line date_field field marked
returns-clause-ok c =
    let read = c.in-Ok.ensures.ok in
    front_stands c.args.bytes.now c.in_ok-dated.dated.now c.in_ok-born.rest.now c.in-Ok.read.0 c.in_ok-born.born
    (three info_mark (uuid_text c.in-Ok.read.0) (codes ">\r\n") c.args.bytes.now c.in_ok-named.named.now c.in-Ok.read.1.now c.in_ok-dated.dated.now
    c.in_ok-named.ensures.ok read.1 c.in_ok-dated.ensures.ok)
    c.in_ok-born.ensures.ok.1
