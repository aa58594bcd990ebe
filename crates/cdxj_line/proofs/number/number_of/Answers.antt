-- A number's decimal is a numeral without an escape, and a numeral is the decimal of its number.
use Rattle.std.proofs.Common.{◌≡◌, ◌∙◌, decimal, ap, sym}
use Rattle.std.proofs.lemmas.Bool.{false≢true}
use Rattle.cdxj_line.specs.steps.Numerals.{is_numeral}
use Rattle.cdxj_line.proofs.Numerals.{decimal_numeral, number_read, numeral_digits, read_number_text}
use Rattle.cdxj_line.proofs.Raw.{number_escape}
use Rattle.cdxj_line.proofs.number.number_of.Goals as goal

pub returns-then-not-is_numeral-clause-found : goal.returns-then-not-is_numeral-clause-found
returns-then-not-is_numeral-clause-found c = λ n small e.
    let plain : c.args.digits.now ≡ decimal n = e ∙ number_escape n small in
    absurd (false≢true (sym c.if-not-is_numeral.true ∙ c.is_numeral.ensures ∙ ap is_numeral plain ∙ decimal_numeral n small))

pub value_of-requires : goal.value_of-requires
value_of-requires c = numeral_digits c.args.digits.now (sym c.is_numeral.ensures ∙ c.if-not-is_numeral.false)

pub returns-clause-found : goal.returns-clause-found
returns-clause-found c = λ n small e.
    number_read c.value_of.result c.args.digits.now n small (e ∙ number_escape n small) c.value_of.ensures.value c.value_of.ensures.none

pub returns-clause-some : goal.returns-clause-some
returns-clause-some c =
    read_number_text c.value_of.result c.args.digits.now (sym c.is_numeral.ensures ∙ c.if-not-is_numeral.false) c.value_of.ensures.fits c.value_of.ensures.value
