use Rattle.std.proofs.Common.{arith}
use Rattle.record_opening.specs.Stops.{NoneStands}
use Rattle.record_opening.proofs.CutLines.{IsCut, content_refused, cut_text, mark_refused, marked_content_refused, marked_stands, nothing_refused, whole_stands}
use Rattle.record_opening.proofs.Exits.{at_exit}
use Rattle.record_opening.proofs.opening_parts.read_cut.Goals as goal

pub returns-in_err-typed-in-87-clause-err : goal.returns-in_err-typed-in-87-clause-err
returns-in_err-typed-in-87-clause-err c =
    at_exit (λ s. NoneStands IsCut cut_text s c.args.bytes.now) _ c.from_residual.result c.from_residual.ensures.1
    (mark_refused _ c.args.bytes.now (omega arith) (omega arith) c.in_err-typed-in-87.ensures.err)

pub returns-in_err-rest-in-87-clause-err : goal.returns-in_err-rest-in-87-clause-err
returns-in_err-rest-in-87-clause-err c =
    at_exit (λ s. NoneStands IsCut cut_text s c.args.bytes.now) _ c.from_residual-in_err-rest-in-87.result c.from_residual-in_err-rest-in-87.ensures.1
    (marked_content_refused _ c.args.bytes.now c.in_ok-typed-in-87.typed.now (omega arith) (omega arith) c.in_ok-typed-in-87.ensures.ok c.in_err-rest-in-87.ensures.err)

pub returns-in_err-rest-in-len1-up-clause-err : goal.returns-in_err-rest-in-len1-up-clause-err
returns-in_err-rest-in-len1-up-clause-err c =
    at_exit (λ s. NoneStands IsCut cut_text s c.args.bytes.now) _ c.from_residual-in_err-rest-in-len1-up.result c.from_residual-in_err-rest-in-len1-up.ensures.1
    (content_refused _ c.args.bytes.now (omega arith) (λ e. omega (arith, e)) c.in_err-rest-in-len1-up.ensures.err)

pub returns-in-empty-clause-err : goal.returns-in-empty-clause-err
returns-in-empty-clause-err c = nothing_refused c.args.bytes.now (omega arith)

pub returns-in_ok-rest-in-87-clause-ok : goal.returns-in_ok-rest-in-87-clause-ok
returns-in_ok-rest-in-87-clause-ok c =
    marked_stands c.args.bytes.now c.in_ok-typed-in-87.typed.now c.in_ok-rest-in-87.rest.now c.in_ok-typed-in-87.ensures.ok c.in_ok-rest-in-87.ensures.ok

pub returns-in_ok-rest-in-len1-up-clause-ok : goal.returns-in_ok-rest-in-len1-up-clause-ok
returns-in_ok-rest-in-len1-up-clause-ok c = whole_stands c.args.bytes.now c.in_ok-rest-in-len1-up.rest.now c.in_ok-rest-in-len1-up.ensures.ok
