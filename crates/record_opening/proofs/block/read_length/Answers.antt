-- A length is a number behind a name, and before an empty line.
use Rattle.std.proofs.Common.{inr, refl, arith}
use Rattle.std.specs.Prelude.{codes}
use Rattle.httparse.specs.Ascii.{crlf_bytes}
use Rattle.warc_text.specs.Lines.{field, length_lines}
use Rattle.record_opening.specs.Blocks.{IsWord}
use Rattle.record_opening.specs.OpenValues.{IsPartOfNumber}
use Rattle.record_opening.specs.Stops.{NoneStands}
use Rattle.record_opening.proofs.Exits.{at_exit}
use Rattle.record_opening.proofs.Numbers.{number_line, number_told}
use Rattle.record_opening.proofs.Pieces.{at_value, before_value, behind_value, three}
use Rattle.record_opening.proofs.block.read_length.Goals as goal

pub returns-in_err-given-clause-err : goal.returns-in_err-given-clause-err
unfolding length_lines field
returns-in_err-given-clause-err c =
    at_exit (λ s. NoneStands IsWord length_lines s c.args.bytes.now) _ c.from_residual.result c.from_residual.ensures.1
    (before_value IsWord number_line _ (codes "Content-Length: ") crlf_bytes c.args.bytes.now 0 (omega arith) c.in_err-given.ensures.err)

pub returns-in_err-n-clause-err : goal.returns-in_err-n-clause-err
unfolding length_lines field
returns-in_err-n-clause-err c =
    at_exit (λ s. NoneStands IsWord length_lines s c.args.bytes.now) _ c.from_residual-in_err-n.result c.from_residual-in_err-n.ensures.1
    (at_value IsWord number_line _ (codes "Content-Length: ") crlf_bytes c.args.bytes.now IsPartOfNumber c.in_ok-given.given.now (λ part. inr (inr (inr (inr (refl, part)))))
    c.in_ok-given.ensures.ok c.in_err-n.ensures.err)

pub returns-in_err-rest-clause-err : goal.returns-in_err-rest-clause-err
unfolding length_lines field
returns-in_err-rest-clause-err c =
    at_exit (λ s. NoneStands IsWord length_lines s c.args.bytes.now) _ c.from_residual-in_err-rest.result c.from_residual-in_err-rest.ensures.1
    (behind_value IsWord number_line _ (codes "Content-Length: ") crlf_bytes c.args.bytes.now c.in_ok-given.given.now c.in_ok-n.empty.now
    c.in_ok-n.n c.in_ok-n.ensures.ok.0 (number_told c.in_ok-n.n c.in_ok-n.ensures.ok.0) c.in_ok-given.ensures.ok c.in_ok-n.ensures.ok.1 c.in_err-rest.ensures.err)

pub returns-clause-ok : goal.returns-clause-ok
unfolding length_lines field
returns-clause-ok c =
    let stands = three (codes "Content-Length: ") (number_line c.in_ok-n.n) crlf_bytes c.args.bytes.now c.in_ok-given.given.now c.in_ok-n.empty.now c.in_ok-rest.rest.now
    c.in_ok-given.ensures.ok c.in_ok-n.ensures.ok.1 c.in_ok-rest.ensures.ok in
    (c.in_ok-n.ensures.ok.0, stands)
