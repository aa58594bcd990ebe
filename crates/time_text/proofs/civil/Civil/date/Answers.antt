use Rattle.std.proofs.Common.{ℕ, pos, sym, ◌∙◌, arith, subst, unsigned_abs, ◌≤ℤ◌, ◌≤◌}
use Rattle.std.proofs.lemmas.Bool.{false≢true}
use Rattle.std.specs.Int.{w32}
use Rattle.std.specs.Prelude.{FitsSigned}
use Rattle.std.proofs.lemmas.Int.{to_z-of_z}
use Rattle.jiff_core.proofs.SignedLemmas.{signed_arith}
use Rattle.time_text.proofs.Moments.{IsCivil, IsCivil-at}
use Rattle.time_text.proofs.Dates.{IsGiven, is_date, number_of_shown, nonnegative, shown_at}
use Rattle.time_text.proofs.civil.Civil.date.Goals as goal

pub returns-in_default : goal.returns-in_default
returns-in_default c = λ date fits e.
    let is = subst IsCivil e (IsCivil-at date fits) in
    absurd (false≢true (c.in_default.ensures.succeeds.1 (is_date c.args.self is)))

pub returns-then-self-gt23 : goal.returns-then-self-gt23
returns-then-self-gt23 c = λ date fits e.
    let is = subst IsCivil e (IsCivil-at date fits) in
    omega (arith, is.hour_in, is.minute_in, is.second_in, c.then-self-gt23.either)

pub returns-then-days-lt0 : goal.returns-then-days-lt0
returns-then-days-lt0 c = λ date in_range e.
    let given : IsGiven c.args.self c.in-Ok.day = record { small = (c.requires.year, c.requires.month, c.requires.day); given = c.in-Ok.ensures.value } in
    let shown = number_of_shown c.args.self c.in-Ok.day date given e in
    let fits : FitsSigned w32 c.to_unix_epoch_day-days.result = omega (arith, signed_arith, c.to_unix_epoch_day-days.ensures.bound) in
    let whole = to_z-of_z w32 c.to_unix_epoch_day-days.result fits in
    omega (arith, signed_arith, c.to_unix_epoch_day-days.ensures.value, whole, shown, c.if-days-lt0.true)

pub returns : goal.returns
returns c =
    let given : IsGiven c.args.self c.in-Ok.day = record { small = (c.requires.year, c.requires.month, c.requires.day); given = c.in-Ok.ensures.value } in
    let fits : FitsSigned w32 c.to_unix_epoch_day-days.result = omega (arith, signed_arith, c.to_unix_epoch_day-days.ensures.bound) in
    let whole = to_z-of_z w32 c.to_unix_epoch_day-days.result fits in
    let days : ℕ = unsigned_abs c.to_unix_epoch_day-days.result in
    let low : pos 0 ≤ℤ c.to_unix_epoch_day-days.result = omega (arith, signed_arith, whole, c.if-days-lt0.false) in
    let plain = nonnegative c.to_unix_epoch_day-days.result low in
    let small : days ≤ 2_932_896 = omega (arith, signed_arith, c.to_unix_epoch_day-days.ensures.bound, plain) in
    rw whole (
      omega arith,
      shown_at c.args.self c.in-Ok.day days given small (sym c.to_unix_epoch_day-days.ensures.value ∙ plain)
          (omega (arith, c.if-self-gt23.false)) (omega (arith, c.if-self-gt59.false)) (omega (arith, c.if-self-gt59-2.false)) (omega (arith, c.requires.millisecond)),
    )
