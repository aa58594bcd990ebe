-- A number is a line of at most twenty digits.
use Rattle.record_opening.specs.Blocks.{IsWord}
use Rattle.record_opening.specs.OpenValues.{IsPartOfNumber}
use Rattle.record_opening.specs.Stops.{NoValueStands}
use Rattle.record_opening.proofs.Exits.{at_exit}
use Rattle.record_opening.proofs.Numbers.{no_number, number_ends, number_line, number_stands}
use Rattle.record_opening.proofs.block.read_number.Goals as goal

pub returns-in_default-number_of-clause-err : goal.returns-in_default-number_of-clause-err
returns-in_default-number_of-clause-err c =
    no_number c.args.bytes.now c.in-Some.digits.now c.in-Some.behind.now c.in-Some.ensures.some c.in_default-number_of.ensures.none

pub returns-in_err-rest-clause-err : goal.returns-in_err-rest-clause-err
returns-in_err-rest-clause-err c =
    at_exit (λ s. NoValueStands IsWord number_line IsPartOfNumber s c.args.bytes.now) _ c.from_residual.result c.from_residual.ensures.1
    (number_ends _ c.args.bytes.now c.in-Some.digits.now c.in-Some.behind.now c.in-Some-number_of.n c.in-Some-number_of.ensures.some.0 c.in-Some-number_of.ensures.some.1
    c.in-Some.ensures.some c.in_err-rest.ensures.err)

pub returns-clause-ok : goal.returns-clause-ok
returns-clause-ok c =
    let stands = number_stands c.args.bytes.now c.in-Some.digits.now c.in-Some.behind.now c.in_ok-rest.rest.now c.in-Some-number_of.n c.in-Some-number_of.ensures.some.1
    c.in-Some.ensures.some c.in_ok-rest.ensures.ok in
    (c.in-Some-number_of.ensures.some.0, stands)
