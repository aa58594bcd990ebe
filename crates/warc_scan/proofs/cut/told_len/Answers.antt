use Rattle.std.proofs.Common.{Some, length, sym, ap, subst, arith}
use Rattle.record_opening.specs.RecordLines.{BeginsWithRecord}
use Rattle.warc_scan.proofs.ToldLens.{group_records}
use Rattle.warc_scan.proofs.cut.told_len.Goals as goal

pub returns-in_err-request-clause-group : goal.returns-in_err-request-clause-group
returns-in_err-request-clause-group c = λ namespace number group begins.
    let records = group_records namespace number c.args.bytes.now group begins in
    absurd (c.in_err-request.ensures.behind records.second records.first_stands)

pub returns-in_err-rest-clause-group : goal.returns-in_err-rest-clause-group
returns-in_err-rest-clause-group c = λ namespace number group begins.
    let records = group_records namespace number c.args.bytes.now group begins in
    let request = c.in_ok-request.ensures.behind records.second records.first_stands in
    absurd (c.in_err-rest.ensures.behind records.rest (subst (λ b. BeginsWithRecord b records.rest) (sym request) records.second_stands))

pub returns-clause-group : goal.returns-clause-group
returns-clause-group c = λ namespace number group begins.
    let records = group_records namespace number c.args.bytes.now group begins in
    let request = c.in_ok-request.ensures.behind records.second records.first_stands in
    let rest = c.in_ok-rest.ensures.behind records.rest (subst (λ b. BeginsWithRecord b records.rest) (sym request) records.second_stands) in
    ap Some (omega (arith, records.long, ap length rest))
