use Rattle.std.proofs.lemmas.Result.{err_from_is_err_and}
use Rattle.time_text.proofs.DigitLemmas.{date_of_digits, no_date_of_digits}
use Rattle.time_text.proofs.digits.date_of.Goals as goal

pub returns-in_err-of_digits : goal.returns-in_err-of_digits
returns-in_err-of_digits c =
    let exit = err_from_is_err_and c.from_residual.result c.from_residual.ensures.1 in
    rw exit.1 (no_date_of_digits c.args.digits.now c.in_err-of_digits.ensures)

pub returns : goal.returns
returns c = date_of_digits c.date.result c.in_ok-of_digits.field-0 c.args.digits.now c.in_ok-of_digits.ensures.1 c.date.ensures
