-- What calendar and clock show at a date.
use Rattle.std.proofs.Common.{◌≡◌, ℕ, ◌+◌, ◌*◌, ◌/◌, ◌%◌, ◌<◌, ◌≤◌, refl, sym, ap, ◌∙◌, arith}
use Rattle.time_text.specs.Calendar.{day_at, civil_at, days_in_month, HasDigits}
use Rattle.time_text.specs.Texts.{InRange}
use Rattle.time_text.specs.declared.civil.Civil.{Civil}
use Rattle.time_text.proofs.Days.{count, count-at, IsDay-at, year_bound, days_in_month_bounds}

-- an hour, minute, second and millisecond that make the millisecond of the day
pub record IsClock (date hour minute second millisecond : ℕ) : Type 0 where
  pub hour_is : hour ≡ date % 86_400_000 / 3_600_000
  pub minute_is : minute ≡ date % 3_600_000 / 60_000
  pub second_is : second ≡ date % 60_000 / 1000
  pub millisecond_is : millisecond ≡ date % 1000

pub clock : (date hour minute second millisecond : ℕ) → hour < 24 → minute < 60 → second < 60 → millisecond < 1000
    → hour * 3_600_000 + minute * 60_000 + second * 1000 + millisecond ≡ date % 86_400_000 → IsClock date hour minute second millisecond
clock date hour minute second millisecond lh lm ls lf e = record {
  hour_is = omega arith;
  minute_is = omega arith;
  second_is = omega arith;
  millisecond_is = omega arith;
}

pub civil_is : (c : Civil) (date : ℕ) → c.year ≡ (day_at (date / 86_400_000)).year → c.month ≡ (day_at (date / 86_400_000)).month
    → c.day ≡ (day_at (date / 86_400_000)).day → IsClock date c.hour c.minute c.second c.millisecond → c ≡ civil_at date
unfolding civil_at
civil_is c date year month day time = λ i. record {
  year = year i;
  month = month i;
  day = day i;
  hour = time.hour_is i;
  minute = time.minute_is i;
  second = time.second_is i;
  millisecond = time.millisecond_is i;
}

-- what every date in range shows
pub record IsCivil (c : Civil) : Type 0 where
  pub year_in : (1970 ≤ c.year) × (c.year ≤ 9999)
  pub month_in : (1 ≤ c.month) × (c.month ≤ 12)
  pub day_in : (1 ≤ c.day) × (c.day ≤ 31)
  pub fits_month : c.day ≤ days_in_month c.year c.month
  pub hour_in : c.hour < 24
  pub minute_in : c.minute < 60
  pub second_in : c.second < 60
  pub millisecond_in : c.millisecond < 1000

pub IsCivil-at : (date : ℕ) → InRange date → IsCivil (civil_at date)
unfolding civil_at
IsCivil-at date fits =
    let n : ℕ = date / 86_400_000 in
    let small : n ≤ 2_932_896 = omega arith in
    let is = IsDay-at n in
    record {
      year_in = (is.year_in, year_bound n small);
      month_in = is.month_in;
      day_in = (is.day_in.0, omega (arith, is.day_in, days_in_month_bounds (day_at n).year (day_at n).month));
      fits_month = is.day_in.1;
      hour_in = omega arith;
      minute_in = omega arith;
      second_in = omega arith;
      millisecond_in = omega arith;
    }

-- every date in range has its digits
pub HasDigits-at : (date : ℕ) → InRange date → HasDigits (civil_at date)
HasDigits-at date fits =
    let is = IsCivil-at date fits in
    record {
      year = is.year_in.1;
      month = omega (arith, is.month_in);
      day = omega (arith, is.day_in);
      hour = omega (arith, is.hour_in);
      minute = omega (arith, is.minute_in);
      second = omega (arith, is.second_in);
      millisecond = omega (arith, is.millisecond_in);
    }

-- the second of what calendar and clock show
abbrev pub second_of : Civil → ℕ
second_of c = count (record { year = c.year; month = c.month; day = c.day }) * 86_400 + c.hour * 3600 + c.minute * 60 + c.second

pub second_of-at : (date : ℕ) → second_of (civil_at date) ≡ date / 1000
unfolding civil_at
second_of-at date =
    let days = count-at (date / 86_400_000) in
    omega arith

pub millisecond-at : (date : ℕ) → (civil_at date).millisecond ≡ date % 1000
unfolding civil_at
millisecond-at date = refl

pub civil_injective : (a b : ℕ) → civil_at a ≡ civil_at b → a ≡ b
civil_injective a b e =
    let seconds = sym (second_of-at a) ∙ ap second_of e ∙ second_of-at b in
    let rest = sym (millisecond-at a) ∙ ap (λ (c : Civil). c.millisecond) e ∙ millisecond-at b in
    omega arith
