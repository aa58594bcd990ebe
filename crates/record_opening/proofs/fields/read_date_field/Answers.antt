use Rattle.std.proofs.Common.{inl, length, length-append, sym, ap, subst, arith}
use Rattle.std.proofs.lemmas.Result.{err_from_is_err_and}
use Rattle.httparse.specs.Ascii.{crlf_bytes}
use Rattle.time_text.specs.Texts.{InRange, warc_date}
use Rattle.record_opening.specs.OpenValues.{IsPartOfDate}
use Rattle.record_opening.specs.steps.OpeningFronts.{marked}
use Rattle.record_opening.specs.Stops.{Differs, NoValueStands}
use Rattle.record_opening.proofs.DateFronts.{date_is_short, date_told}
use Rattle.record_opening.proofs.Exits.{at_open_exit}
use Rattle.record_opening.proofs.Pieces.{at_value, before_value, behind_value, three}
use Rattle.record_opening.proofs.fields.read_date_field.Goals as goal

pub returns-in_err-given-clause-err : goal.returns-in_err-given-clause-err
unfolding marked
returns-in_err-given-clause-err c =
    let exit = err_from_is_err_and c.from_residual.result c.from_residual.ensures.1 in
    let mark = c.args.mark.now in
    rw exit.1 (before_value InRange warc_date exit.0 mark crlf_bytes c.args.bytes.now 0 (omega arith)
    (subst (λ s. Differs s c.args.bytes.now mark) (sym exit.2) c.in_err-given.ensures.err))

pub returns-in_err-date-clause-err : goal.returns-in_err-date-clause-err
unfolding marked
returns-in_err-date-clause-err c =
    let exit = err_from_is_err_and c.from_residual-in_err-date.result c.from_residual-in_err-date.ensures.1 in
    let mark = c.args.mark.now in
    rw exit.1 (at_value InRange warc_date exit.0 mark crlf_bytes c.args.bytes.now IsPartOfDate c.in_ok-given.given.now (λ part. inl (c.requires, part)) c.in_ok-given.ensures.ok
    (subst (λ s. NoValueStands InRange warc_date IsPartOfDate s c.in_ok-given.given.now) (sym exit.2) c.in_err-date.ensures.err))

pub returns-in_err-rest-clause-err : goal.returns-in_err-rest-clause-err
unfolding marked
returns-in_err-rest-clause-err c =
    let exit = err_from_is_err_and c.from_residual-in_err-rest.result c.from_residual-in_err-rest.ensures.1 in
    let mark = c.args.mark.now in
    let date = c.in_ok-date.date in
    rw exit.1 (behind_value InRange warc_date exit.0 mark crlf_bytes c.args.bytes.now c.in_ok-given.given.now c.in_ok-date.end.now date
    c.in_ok-date.ensures.ok.0 (date_told date) c.in_ok-given.ensures.ok c.in_ok-date.ensures.ok.1
    (subst (λ s. Differs s c.in_ok-date.end.now crlf_bytes) (sym exit.2) c.in_err-rest.ensures.err))

pub returns-clause-ok : goal.returns-clause-ok
unfolding marked
returns-clause-ok c = (
  c.in_ok-date.ensures.ok.0,
  three c.args.mark.now (warc_date c.in_ok-date.date) crlf_bytes c.args.bytes.now
      c.in_ok-given.given.now c.in_ok-date.end.now c.in_ok-rest.rest.now c.in_ok-given.ensures.ok c.in_ok-date.ensures.ok.1 c.in_ok-rest.ensures.ok,
)

pub returns-in_err-given-clause-ends : goal.returns-in_err-given-clause-ends
returns-in_err-given-clause-ends c =
    at_open_exit _ _ c.from_residual.result c.from_residual.ensures.1 (λ open_.
    let is = c.in_err-given.ensures.err.ends open_ in
    omega (arith, ap length is.composed, length-append c.args.bytes.now is.behind, is.more))

pub returns-in_err-rest-clause-ends : goal.returns-in_err-rest-clause-ends
returns-in_err-rest-clause-ends c =
    at_open_exit _ _ c.from_residual-in_err-rest.result c.from_residual-in_err-rest.ensures.1 (λ open_.
    let is = c.in_err-rest.ensures.err.ends open_ in
    let end = c.in_ok-date.end.now in
    let mark = c.args.mark.now in
    omega (
      arith,
      ap length is.composed,
      length-append end is.behind,
      is.more,
      date_is_short c.in_ok-date.date,
      ap length c.in_ok-given.ensures.ok,
      length-append mark c.in_ok-given.given.now,
      ap length c.in_ok-date.ensures.ok.1,
      length-append (warc_date c.in_ok-date.date) end,
    ))
