use Rattle.std.proofs.Common.{◌≡◌, ◌+◌, ◌*◌, ◌/◌, ◌%◌, arith}
use Rattle.std.proofs.lemmas.Result.{err_from_is_err_and}
use Rattle.time_text.specs.declared.civil.Civil.{Civil}
use Rattle.time_text.proofs.DigitLemmas.{Shows, shows, digits_from_shows}
use Rattle.time_text.proofs.civil.Civil.of_digits.Goals as goal

pub returns-in_err-century : goal.returns-in_err-century
returns-in_err-century c =
    let exit = err_from_is_err_and c.from_residual.result c.from_residual.ensures.1 in
    rw exit.1 (λ shown has e. c.in_err-century.ensures (shown.year / 100) (omega (arith, has.year)) (shows c.args.digits.now shown e).century)

pub returns-in_err-year : goal.returns-in_err-year
returns-in_err-year c =
    let exit = err_from_is_err_and c.from_residual-in_err-year.result c.from_residual-in_err-year.ensures.1 in
    rw exit.1 (λ shown has e. c.in_err-year.ensures (shown.year % 100) (omega (arith, has.year)) (shows c.args.digits.now shown e).year)

pub returns-in_err-small_number_of : goal.returns-in_err-small_number_of
returns-in_err-small_number_of c =
    let exit = err_from_is_err_and c.from_residual-in_err-small_number_of.result c.from_residual-in_err-small_number_of.ensures.1 in
    rw exit.1 (λ shown has e. c.in_err-small_number_of.ensures (shown.month) (omega (arith, has.month)) (shows c.args.digits.now shown e).month)

pub returns-in_err-small_number_of-2 : goal.returns-in_err-small_number_of-2
returns-in_err-small_number_of-2 c =
    let exit = err_from_is_err_and c.from_residual-in_err-small_number_of-2.result c.from_residual-in_err-small_number_of-2.ensures.1 in
    rw exit.1 (λ shown has e. c.in_err-small_number_of-2.ensures (shown.day) (omega (arith, has.day)) (shows c.args.digits.now shown e).day)

pub returns-in_err-small_number_of-3 : goal.returns-in_err-small_number_of-3
returns-in_err-small_number_of-3 c =
    let exit = err_from_is_err_and c.from_residual-in_err-small_number_of-3.result c.from_residual-in_err-small_number_of-3.ensures.1 in
    rw exit.1 (λ shown has e. c.in_err-small_number_of-3.ensures (shown.hour) (omega (arith, has.hour)) (shows c.args.digits.now shown e).hour)

pub returns-in_err-small_number_of-4 : goal.returns-in_err-small_number_of-4
returns-in_err-small_number_of-4 c =
    let exit = err_from_is_err_and c.from_residual-in_err-small_number_of-4.result c.from_residual-in_err-small_number_of-4.ensures.1 in
    rw exit.1 (λ shown has e. c.in_err-small_number_of-4.ensures (shown.minute) (omega (arith, has.minute)) (shows c.args.digits.now shown e).minute)

pub returns-in_err-small_number_of-5 : goal.returns-in_err-small_number_of-5
returns-in_err-small_number_of-5 c =
    let exit = err_from_is_err_and c.from_residual-in_err-small_number_of-5.result c.from_residual-in_err-small_number_of-5.ensures.1 in
    rw exit.1 (λ shown has e. c.in_err-small_number_of-5.ensures (shown.second) (omega (arith, has.second)) (shows c.args.digits.now shown e).second)

pub returns-in_err-number_of : goal.returns-in_err-number_of
returns-in_err-number_of c =
    let exit = err_from_is_err_and c.from_residual-in_err-number_of.result c.from_residual-in_err-number_of.ensures.1 in
    rw exit.1 (λ shown has e. c.in_err-number_of.ensures (shown.millisecond) (omega (arith, has.millisecond)) (shows c.args.digits.now shown e).millisecond)

pub returns : goal.returns
returns c =
    let civil : Civil = record {
      year = c.in_ok-century.century * 100 + c.in_ok-year.year;
      month = c.in_ok-small_number_of.field-0;
      day = c.in_ok-small_number_of-2.field-0;
      hour = c.in_ok-small_number_of-3.field-0;
      minute = c.in_ok-small_number_of-4.field-0;
      second = c.in_ok-small_number_of-5.field-0;
      millisecond = c.in_ok-number_of.field-0;
    } in
    let high : civil.year / 100 ≡ c.in_ok-century.century = omega (arith, c.in_ok-year.ensures.0) in
    let low : civil.year % 100 ≡ c.in_ok-year.year = omega (arith, c.in_ok-year.ensures.0) in
    let shown : Shows c.args.digits.now civil = record {
      century = rw high c.in_ok-century.ensures.1;
      year = rw low c.in_ok-year.ensures.1;
      month = c.in_ok-small_number_of.ensures.1;
      day = c.in_ok-small_number_of-2.ensures.1;
      hour = c.in_ok-small_number_of-3.ensures.1;
      minute = c.in_ok-small_number_of-4.ensures.1;
      second = c.in_ok-small_number_of-5.ensures.1;
      millisecond = c.in_ok-number_of.ensures.1;
    } in (
      record {
        year = omega (arith, c.in_ok-century.ensures.0, c.in_ok-year.ensures.0);
        month = omega (arith, c.in_ok-small_number_of.ensures.0);
        day = omega (arith, c.in_ok-small_number_of-2.ensures.0);
        hour = omega (arith, c.in_ok-small_number_of-3.ensures.0);
        minute = omega (arith, c.in_ok-small_number_of-4.ensures.0);
        second = omega (arith, c.in_ok-small_number_of-5.ensures.0);
        millisecond = omega (arith, c.in_ok-number_of.ensures.0);
      },
      digits_from_shows c.args.digits.now civil (omega arith) shown,
    )
