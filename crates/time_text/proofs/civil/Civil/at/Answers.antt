use Rattle.std.proofs.Common.{◌≡◌, ℕ, ◌/◌, ◌%◌, refl, ap, ◌∙◌, arith, to_z, of_z, unsigned_abs}
use Rattle.std.specs.Int.{w16}
use Rattle.time_text.specs.Calendar.{day_at, civil_at}
use Rattle.time_text.specs.declared.civil.Civil.{Civil}
use Rattle.time_text.proofs.Days.{year_bound, days_in_month_bounds, IsDay-at}
use Rattle.time_text.proofs.Moments.{clock, civil_is, second_of, second_of-at}
use Rattle.time_text.proofs.Dates.{IsDateOf, date_of_days}
use Rattle.time_text.proofs.civil.Civil.at.Goals as goal

-- what the code makes of jiff's date and time
abbrev made : (c : goal.After-struct_told-1) → Civil
made c = record {
  year = unsigned_abs (to_z w16 (of_z w16 c.in-Ok.day.year));
  month = c.in-Ok.day.month;
  day = c.in-Ok.day.day;
  hour = c.from_second-time.result.hour;
  minute = c.from_second-time.result.minute;
  second = c.from_second-time.result.second;
  millisecond = c.args.date % 1000;
}

today : (c : goal.After-struct_told-1) → IsDateOf c.in-Ok.day (c.args.date / 86_400_000)
today c = date_of_days c.in-Ok.day (c.args.date / 86_400_000) (omega arith) (c.in-Ok.ensures.succeeds.0 refl) c.in-Ok.ensures.value

shown : (c : goal.After-struct_told-1) → made c ≡ civil_at c.args.date
shown c =
    let is = today c in
    let time = c.from_second-time.result in
    civil_is (made c) c.args.date (ap unsigned_abs is.cast) is.month is.day
    (clock c.args.date time.hour time.minute time.second (c.args.date % 1000) time.hour_in time.minute_in time.second_in (omega arith) (omega (arith, c.from_second-time.ensures.seconds)))

pub overflow_cast-result : goal.overflow_cast-result
overflow_cast-result c =
    let is = today c in
    rw is.cast (tt, omega (arith, year_bound (c.args.date / 86_400_000) is.small))

pub returns-clause-value : goal.returns-clause-value
returns-clause-value c =
    let small = (today c).small in
    (omega arith, shown c)

pub returns-clause-digits : goal.returns-clause-digits
returns-clause-digits c =
    let is = today c in
    let days : ℕ = c.args.date / 86_400_000 in
    let day = IsDay-at days in
    let time = c.from_second-time.result in
    record {
      year = rw is.cast (year_bound days is.small);
      month = omega (arith, is.month, day.month_in);
      day = omega (arith, is.day, day.day_in, days_in_month_bounds (day_at days).year (day_at days).month);
      hour = omega (arith, time.hour_in);
      minute = omega (arith, time.minute_in);
      second = omega (arith, time.second_in);
      millisecond = omega arith;
    }

pub returns-clause-counted : goal.returns-clause-counted
returns-clause-counted c = ap second_of (shown c) ∙ second_of-at c.args.date
