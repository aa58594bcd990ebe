-- Days of the calendar, a day at a time and by their day numbers in the libraries.
use Rattle.std.proofs.Common.{◌≡◌, ℕ, zero, suc, ◌+◌, ◌-◌, ◌<◌, ◌≤◌, inl, inr, refl, sym, ap, ◌∙◌, arith, ℤ, pos, ◌+ℤ◌}
use Rattle.std.proofs.lemmas.Bool.{cases_lt, lt-ltb, le-ltb}
use Rattle.httpdate.specs.Calendar as counted
use Rattle.httpdate.proofs.CalendarLemmas.{days_of_months_more, days_of_months_all, days_from_civil_year}
use Rattle.jiff_core.specs.Calendar.{days_from_civil}
use Rattle.jiff_core.specs.declared.civil.date.Date.{Date}
use Rattle.jiff_core.specs.Date.{epoch_day}
use Rattle.jiff_core.proofs.SignedLemmas.{signed_arith}
use Rattle.jiff_core.proofs.CalendarLemmas.{day_count-epoch, days_from_civil-day_count}
use Rattle.jiff_core.proofs.DateLemmas.{days_from_civil-day, days_from_civil-next_month, days_from_civil-next_year, epoch_day_injective}
use Rattle.time_text.specs.Calendar.{days_in_month, Day, day_after, day_at}

-- the calendar has this day, in 1970 or later
pub record IsDay (d : Day) : Type 0 where
  pub year_in : 1970 ≤ d.year
  pub month_in : (1 ≤ d.month) × (d.month ≤ 12)
  pub day_in : (1 ≤ d.day) × (d.day ≤ days_in_month d.year d.month)

-- the three cases of the day that follows
pub after_cases : (d : Day) (P : Day → Type 0) → (d.day < days_in_month d.year d.month → P (record d { day = d.day + 1 }))
    → (days_in_month d.year d.month ≤ d.day → d.month < 12 → P (record { year = d.year; month = d.month + 1; day = 1 }))
    → (days_in_month d.year d.month ≤ d.day → 12 ≤ d.month → P (record { year = d.year + 1; month = 1; day = 1 })) → P (day_after d)
after_cases d P within month year =
    elim (cases_lt d.day (days_in_month d.year d.month)) [
      | inl lt ↦ rw (lt-ltb _ _ lt) (within lt)
      | inr ge ↦ elim (cases_lt d.month 12) [
        | inl lt ↦ rw (le-ltb _ _ ge, lt-ltb _ _ lt) (month ge lt)
        | inr le ↦ rw (le-ltb _ _ ge, le-ltb _ _ le) (year ge le)
      ]
    ]

pub days_in_month_bounds : (y m : ℕ) → (28 ≤ days_in_month y m) × (days_in_month y m ≤ 31)
days_in_month_bounds y m = grind arith

IsDay-after : (d : Day) → IsDay d → IsDay (day_after d)
IsDay-after d is =
    let bounds = days_in_month_bounds in
    after_cases d IsDay
    (λ lt. record { year_in = is.year_in; month_in = is.month_in; day_in = (omega arith, omega arith) })
    (λ ge lt. record { year_in = is.year_in; month_in = (omega arith, omega arith); day_in = (omega arith, omega (arith, bounds d.year (d.month + 1))) })
    (λ ge le. record { year_in = omega (arith, is.year_in); month_in = (omega arith, omega arith); day_in = (omega arith, omega (arith, bounds (d.year + 1) 1)) })

pub IsDay-at : (n : ℕ) → IsDay (day_at n)
unfolding day_at
IsDay-at zero = record { year_in = omega arith; month_in = (omega arith, omega arith); day_in = (omega arith, omega arith) }
IsDay-at (suc n) = IsDay-after (day_at n) (IsDay-at n)

-- the number of a day, by the counts of its years and months
abbrev pub count : Day → ℕ
count d = counted.days_from_civil d.year d.month d.day

count-next_month : (y m : ℕ) → 1 ≤ m → counted.days_from_civil y (m + 1) 1 ≡ counted.days_from_civil y m (days_in_month y m) + 1
count-next_month y m low =
    let back : m + 1 - 1 ≡ m = omega arith in
    rw back (omega (arith, days_of_months_more y m low, days_in_month_bounds y m))

count-next_year : (y m d : ℕ) → 1970 ≤ y → m ≡ 12 → d ≡ 31 → counted.days_from_civil (y + 1) 1 1 ≡ counted.days_from_civil y m d + 1
unfolding counted.days_of_years counted.days_of_months
count-next_year y m d low last end =
    let years : y + 1 - 1970 ≡ suc (y - 1970) = omega arith in
    let same : 1970 + (y - 1970) ≡ y = omega arith in
    rw (last, end, years, same) (omega (arith, days_of_months_all y, days_of_months_more y 12 (omega arith)))

-- the last day of a year is 31 December
last_of_year : (d : Day) → IsDay d → days_in_month d.year d.month ≤ d.day → 12 ≤ d.month → (d.month ≡ 12) × (d.day ≡ 31)
last_of_year d is ge le =
    let twelve : d.month ≡ 12 = omega (arith, is.month_in) in
    let long : days_in_month d.year d.month ≡ 31 = rw twelve refl in
    (twelve, omega (arith, is.day_in))

count-after : (d : Day) → IsDay d → count (day_after d) ≡ count d + 1
count-after d is = after_cases d (λ e. count e ≡ count d + 1)
    (λ lt. omega (arith, is.day_in))
    (λ ge lt.
    let last : days_in_month d.year d.month ≡ d.day = omega (arith, is.day_in) in
    count-next_month d.year d.month is.month_in.0 ∙ ap (λ (k : ℕ). counted.days_from_civil d.year d.month k + 1) last)
    (λ ge le.
    let last = last_of_year d is ge le in
    count-next_year d.year d.month d.day is.year_in last.0 last.1)

pub count-at : (n : ℕ) → count (day_at n) ≡ n
unfolding day_at counted.days_of_years counted.days_of_months
count-at zero = refl
count-at (suc n) =
    let more = count-after (day_at n) (IsDay-at n) in
    let here = count-at n in
    more ∙ omega arith

-- the number of a day in jiff
abbrev pub number : Day → ℤ
number d = days_from_civil (pos d.year) d.month d.day

number-after : (d : Day) → IsDay d → number (day_after d) ≡ number d +ℤ pos 1
number-after d is = after_cases d (λ e. number e ≡ number d +ℤ pos 1)
    (λ lt. omega (arith, signed_arith, days_from_civil-day (pos d.year) d.month d.day (d.day + 1) is.day_in.0 (omega arith)))
    (λ ge lt.
    let last : d.day ≡ days_in_month d.year d.month = omega (arith, is.day_in) in
    days_from_civil-next_month (pos d.year) d.month d.day is.month_in.0 last)
    (λ ge le.
    let last = last_of_year d is ge le in
    let december : days_from_civil (pos d.year) 12 31 ≡ number d = rw (last.0, last.1) refl in
    days_from_civil-next_year (pos d.year) (pos (d.year + 1)) (omega (arith, signed_arith)) (omega (arith, signed_arith))
    ∙ ap (λ (z : ℤ). z +ℤ pos 1) december)

pub number-at : (n : ℕ) → number (day_at n) ≡ pos n
unfolding day_at
number-at zero = omega (arith, signed_arith, days_from_civil-day_count (pos 1970) 1 1, day_count-epoch)
number-at (suc n) =
    let more = number-after (day_at n) (IsDay-at n) in
    let here = number-at n in
    more ∙ omega (arith, signed_arith)

-- the last day before the year 10000
last_day : counted.days_from_civil 9999 12 31 ≡ 2_932_896
unfolding counted.days_of_years counted.days_of_months
last_day = refl

pub year_bound : (n : ℕ) → n ≤ 2_932_896 → (day_at n).year ≤ 9999
year_bound n small =
    elim (cases_lt 9999 (day_at n).year) [
      | inr le ↦ le
      | inl lt ↦
          let december : counted.IsCivilDate 9999 12 31 = ((omega arith, omega arith), (omega arith, omega arith), (omega arith, omega arith)) in
          absurd (omega (arith, last_day, count-at n, days_from_civil_year 9999 12 31 (day_at n).year (day_at n).month (day_at n).day december lt))
    ]

-- the day as a date of jiff
abbrev date_of : (n : ℕ) → n ≤ 2_932_896 → Date
date_of n small = record {
  year = pos (day_at n).year;
  month = (day_at n).month;
  day = (day_at n).day;
  year_in = (omega (arith, signed_arith), omega (arith, signed_arith, year_bound n small));
  month_in = (IsDay-at n).month_in;
  day_in = (IsDay-at n).day_in;
}

-- a date of jiff is the day of its day number
pub date_is_day : (x : Date) (n : ℕ) → n ≤ 2_932_896 → epoch_day x ≡ pos n
    → (x.year ≡ pos (day_at n).year) × (x.month ≡ (day_at n).month) × (x.day ≡ (day_at n).day)
date_is_day x n small e = epoch_day_injective x (date_of n small) (e ∙ sym (number-at n))
