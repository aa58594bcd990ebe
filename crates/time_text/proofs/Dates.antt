-- From what calendar and clock show to the date, by jiff's day numbers.
use Rattle.std.proofs.Common.{◌≡◌, ℕ, ◌+◌, ◌*◌, ◌/◌, ◌<◌, ◌≤◌, refl, sym, ap, ◌∙◌, arith, ℤ, pos, negsuc, unsigned_abs, ◌≤ℤ◌, ◌^◌, to_z, of_z}
use Rattle.std.proofs.lemmas.Int.{to_z_pos}
use Rattle.std.specs.Int.{w8, w16, w64}
use Rattle.jiff_core.specs.Calendar.{IsDate, IsEpochDay}
use Rattle.jiff_core.specs.Date.{epoch_day, IsYmd}
use Rattle.jiff_core.specs.declared.civil.date.Date.{Date}
use Rattle.jiff_core.proofs.SignedLemmas.{signed_arith}
use Rattle.time_text.specs.Calendar.{day_at, civil_at}
use Rattle.time_text.specs.declared.civil.Civil.{Civil}
use Rattle.time_text.proofs.Days.{number-at, date_is_day, year_bound}
use Rattle.time_text.proofs.Moments.{IsCivil, clock, civil_is}

-- what a date in range shows is a date of jiff
pub is_date : (c : Civil) → IsCivil c → IsDate (to_z w16 c.year) (to_z w8 c.month) (to_z w8 c.day)
is_date c is =
    rw (to_z_pos w16 c.year (omega (arith, is.year_in)), to_z_pos w8 c.month (omega (arith, is.month_in)), to_z_pos w8 c.day (omega (arith, is.day_in))) (
      (omega (arith, signed_arith), omega (arith, signed_arith, is.year_in)),
      (omega (arith, signed_arith, is.month_in), omega (arith, signed_arith, is.month_in)),
      (omega (arith, signed_arith, is.day_in), omega (arith, signed_arith, is.fits_month)),
    )

-- what jiff was given
pub record IsGiven (c : Civil) (x : Date) : Type 0 where
  pub small : (c.year ≤ 9999) × (c.month ≤ 99) × (c.day ≤ 99)
  pub given : IsYmd (to_z w16 c.year) (to_z w8 c.month) (to_z w8 c.day) x

given_parts : (c : Civil) (x : Date) → IsGiven c x → (x.year ≡ pos c.year) × (x.month ≡ c.month) × (x.day ≡ c.day)
given_parts c x is =
    let year = to_z_pos w16 c.year (omega (arith, is.small)) in
    let month = to_z_pos w8 c.month (omega (arith, is.small)) in
    let day = to_z_pos w8 c.day (omega (arith, is.small)) in
    (is.given.0 ∙ year, ap unsigned_abs (is.given.1 ∙ month), ap unsigned_abs (is.given.2 ∙ day))

-- the day number of the day that a date shows
pub number_of_shown : (c : Civil) (x : Date) (date : ℕ) → IsGiven c x → civil_at date ≡ c → epoch_day x ≡ pos (date / 86_400_000)
unfolding civil_at
number_of_shown c x date is e =
    let p = given_parts c x is in
    let today = number-at (date / 86_400_000) in
    let year : (day_at (date / 86_400_000)).year ≡ c.year = ap (λ (v : Civil). v.year) e in
    let month : (day_at (date / 86_400_000)).month ≡ c.month = ap (λ (v : Civil). v.month) e in
    let day : (day_at (date / 86_400_000)).day ≡ c.day = ap (λ (v : Civil). v.day) e in
    rw (p.0, p.1, p.2, ← year, ← month, ← day) today

pub nonnegative : (z : ℤ) → pos 0 ≤ℤ z → z ≡ pos (unsigned_abs z)
nonnegative (pos n) h = refl
nonnegative (negsuc n) h = absurd (omega (arith, signed_arith))

pos_same : (m n : ℕ) → pos m ≡ pos n → m ≡ n
pos_same m n e = ap unsigned_abs e

-- the date that shows it
pub shown_at : (c : Civil) (x : Date) (days : ℕ) → IsGiven c x → days ≤ 2_932_896 → epoch_day x ≡ pos days → c.hour < 24 → c.minute < 60 → c.second < 60
    → c.millisecond < 1000 → civil_at (days * 86_400_000 + (c.hour * 3600 + c.minute * 60 + c.second) * 1000 + c.millisecond) ≡ c
shown_at c x days is small e hour minute second millisecond =
    let date : ℕ = days * 86_400_000 + (c.hour * 3600 + c.minute * 60 + c.second) * 1000 + c.millisecond in
    let p = given_parts c x is in
    let same = date_is_day x days small e in
    let back : date / 86_400_000 ≡ days = omega arith in
    sym (civil_is c date
    (rw back (pos_same _ _ (sym p.0 ∙ same.0))) (rw back (sym p.1 ∙ same.1)) (rw back (sym p.2 ∙ same.2))
    (clock date c.hour c.minute c.second c.millisecond hour minute second millisecond (omega arith)))

-- jiff's date of a day number, with its year as a cast leaves it
pub record IsDateOf (x : Date) (days : ℕ) : Type 0 where
  pub small : days ≤ 2_932_896
  pub cast : to_z w16 (of_z w16 x.year) ≡ pos (day_at days).year
  pub month : x.month ≡ (day_at days).month
  pub day : x.day ≡ (day_at days).day

pub date_of_days : (x : Date) (days : ℕ) → days < 2 ^ 63 → IsEpochDay (to_z w64 days) → epoch_day x ≡ to_z w64 days → IsDateOf x days
date_of_days x days fits in_range e =
    let plain = to_z_pos w64 days fits in
    let small : days ≤ 2_932_896 = omega (arith, signed_arith, in_range.1, plain) in
    let same = date_is_day x days small (e ∙ plain) in
    record {
      small = small;
      cast = rw same.0 (to_z_pos w16 (day_at days).year (omega (arith, year_bound days small)));
      month = same.1;
      day = same.2;
    }
