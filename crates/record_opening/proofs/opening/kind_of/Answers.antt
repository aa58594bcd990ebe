use Rattle.std.proofs.Common.{ℕ, List, arith}
use Rattle.record_opening.specs.Openings.{IsOpening, opening_text}
use Rattle.record_opening.specs.Stops.{NoneStands}
use Rattle.record_opening.proofs.Exits.{at_exit}
use Rattle.record_opening.proofs.OpeningKinds.{front_ends, front_refused, letter_refused, response_is_there, revisit_is_there}
use Rattle.record_opening.proofs.opening.kind_of.Goals as goal

pub returns-in_err-letter-clause-err : goal.returns-in_err-letter-clause-err
returns-in_err-letter-clause-err c =
    at_exit (λ s. (id : List ℕ) → NoneStands IsOpening (opening_text id) s c.args.bytes.now) _ c.from_residual.result c.from_residual.ensures.1
    (λ id. front_refused id _ c.args.bytes.now c.in_err-letter.ensures.err)

pub returns-in-115-clause-kind : goal.returns-in-115-clause-kind
returns-in-115-clause-kind c = response_is_there c.args.bytes.now c.in_ok-letter.letter.now c.in_ok-letter.ensures.ok (omega arith) (omega arith)

pub returns-in-118-clause-kind : goal.returns-in-118-clause-kind
returns-in-118-clause-kind c = revisit_is_there c.args.bytes.now c.in_ok-letter.letter.now c.in_ok-letter.ensures.ok (omega arith) (omega arith)

pub returns-in-len1-up-clause-err : goal.returns-in-len1-up-clause-err
returns-in-len1-up-clause-err c = λ id.
    letter_refused id c.args.bytes.now c.in_ok-letter.letter.now c.in_ok-letter.ensures.ok (omega arith) (λ e. omega (arith, e)) (λ e. omega (arith, e))

pub returns-in-empty-clause-err : goal.returns-in-empty-clause-err
returns-in-empty-clause-err c = λ id. front_ends id c.args.bytes.now c.in_ok-letter.letter.now c.in_ok-letter.ensures.ok (omega arith)
