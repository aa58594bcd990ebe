-- The proleptic Gregorian calendar (ISO 8601, 4.2.1), a day at a time from 1970-01-01, in UTC.
use Rattle.std.specs.Prelude.{ℕ, zero, suc, ◌+◌, ◌/◌, ◌%◌, ◌≤◌, Bool, not, ◌&&◌, ◌||◌, ◌==◌, nat_lt, if◌then◌else◌}
use Rattle.time_text.specs.declared.civil.Civil.{Civil}

-- every fourth year, but of the hundreds only every fourth
abbrev pub is_leap_year : ℕ → Bool
is_leap_year year = (year % 4 == 0) && (not (year % 100 == 0) || (year % 400 == 0))

-- thirty days have September, April, June and November
abbrev pub days_in_month : ℕ → ℕ → ℕ
days_in_month year month =
    if month == 2 then (if is_leap_year year then 29 else 28)
    else (if (month == 4) || (month == 6) || (month == 9) || (month == 11) then 30 else 31)

-- a day of the calendar
pub record Day : Type 0 where
  pub year : ℕ
  pub month : ℕ
  pub day : ℕ

-- the day that follows
abbrev pub day_after : Day → Day
day_after d =
    if nat_lt d.day (days_in_month d.year d.month) then record d { day = d.day + 1 }
    else (if nat_lt d.month 12 then record { year = d.year; month = d.month + 1; day = 1 }
    else record { year = d.year + 1; month = 1; day = 1 })

-- the day so many days after 1970-01-01
unfoldable pub day_at : ℕ → Day
day_at zero = record { year = 1970; month = 1; day = 1 }
day_at (suc n) = day_after (day_at n)

-- what calendar and clock show so many milliseconds after 1970-01-01T00:00:00
unfoldable pub civil_at : ℕ → Civil
civil_at date =
    let today = day_at (date / 86_400_000) in
    record {
      year = today.year;
      month = today.month;
      day = today.day;
      hour = date % 86_400_000 / 3_600_000;
      minute = date % 3_600_000 / 60_000;
      second = date % 60_000 / 1000;
      millisecond = date % 1000;
    }

-- four digits have room for the year, three for the millisecond, and two for each of the others
pub record HasDigits (c : Civil) : Type 0 where
  pub year : c.year ≤ 9999
  pub month : c.month ≤ 99
  pub day : c.day ≤ 99
  pub hour : c.hour ≤ 99
  pub minute : c.minute ≤ 99
  pub second : c.second ≤ 99
  pub millisecond : c.millisecond ≤ 999
