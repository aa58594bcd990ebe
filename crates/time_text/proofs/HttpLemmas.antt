-- The HTTP date of a date, in httpdate's words.
use Rattle.std.proofs.Common.{◌≡◌, ℕ, zero, suc, ◌+◌, ◌-◌, ◌*◌, ◌/◌, ◌%◌, ◌<◌, List, [], ◌∷◌, ◌++◌, refl, sym, ap, ◌∙◌, arith, append_assoc, inl}
use Rattle.std.specs.Prelude.{codes}
use Rattle.httpdate.specs.declared.parts.Parts.{Parts}
use Rattle.httpdate.specs.declared.date.HttpDate.{HttpDate}
use Rattle.httpdate.specs.Valid.{IsValid, parts_secs}
use Rattle.httpdate.specs.Text.{imf_fixdate}
use Rattle.httpdate.specs.Date.{unix_secs, date_text, IsDateText}
use Rattle.httpdate.proofs.ValidLemmas.{is_valid_complete}
use Rattle.httpdate.proofs.Theorems.{date_text_is, IsDateText_unique}
use Rattle.time_text.specs.Calendar.{day_at, civil_at}
use Rattle.time_text.specs.Texts.{InRange, whole_second, http_date, imf_of}
use Rattle.time_text.specs.Blanks.{trim_start, trim_end, trim_blanks}
use Rattle.time_text.specs.declared.civil.Civil.{Civil}
use Rattle.time_text.proofs.BlankLemmas.{trim_end-other}
use Rattle.time_text.proofs.Days.{count-at, IsDay-at, year_bound}

-- what httpdate keeps of a date
abbrev parts_at : ℕ → Parts
parts_at date =
    let n = date / 86_400_000 in
    record {
      year = (day_at n).year;
      mon = (day_at n).month;
      day = (day_at n).day;
      hour = date % 86_400_000 / 3_600_000;
      min = date % 3_600_000 / 60_000;
      sec = date % 60_000 / 1000;
      wday = (n + 3) % 7 + 1;
    }

IsValid-at : (date : ℕ) → InRange date → IsValid (parts_at date)
IsValid-at date fits =
    let n : ℕ = date / 86_400_000 in
    let is = IsDay-at n in (
      ((is.year_in, year_bound n (omega arith)), is.month_in, is.day_in),
      (omega arith, omega arith, omega arith),
      ap (λ (k : ℕ). (k + 3) % 7 + 1) (sym (count-at n)),
    )

parts_secs-at : (date : ℕ) → parts_secs (parts_at date) ≡ date / 1000
parts_secs-at date =
    let days = count-at (date / 86_400_000) in
    omega arith

imf-at : (date : ℕ) → imf_fixdate (parts_at date) ≡ http_date date
unfolding http_date civil_at
imf-at date =
    let back : (date / 86_400_000 + 3) % 7 + 1 - 1 ≡ (date / 86_400_000 + 3) % 7 = omega arith in
    rw back refl

-- what httpdate writes for a date
pub written : (d : HttpDate) (date : ℕ) → InRange date → unix_secs d ≡ date / 1000 → date_text d ≡ http_date date
written d date fits e =
    date_text_is d (parts_at date) (is_valid_complete (parts_at date) (IsValid-at date fits)) (e ∙ sym (parts_secs-at date)) ∙ imf-at date

-- the date, as httpdate has it
abbrev date_at : (date : ℕ) → InRange date → HttpDate
date_at date fits = record {
  parts = parts_at date;
  civil = (IsValid-at date fits).0;
  time = (IsValid-at date fits).1;
  right_day = (IsValid-at date fits).2;
}

pub http_date_shows : (date : ℕ) → InRange date → (d : HttpDate) × IsDateText (http_date date) d × (unix_secs d * 1000 ≡ whole_second date)
http_date_shows date fits = (date_at date fits, inl (sym (imf-at date)), ap (λ (n : ℕ). n * 1000) (parts_secs-at date))

-- a text that shows a date in range shows no other
pub shown_once : (text : List ℕ) (d : HttpDate) (date : ℕ) → InRange date → IsDateText text d → text ≡ http_date date → unix_secs d ≡ date / 1000
shown_once text d date fits shown e =
    let there : IsDateText text (date_at date fits) = inl (e ∙ sym (imf-at date)) in
    ap parts_secs (IsDateText_unique text d (date_at date fits) shown there) ∙ parts_secs-at date

-- no name of a day begins with a blank
first_is_letter : (weekday : ℕ) (c : Civil) → weekday < 7 → trim_start (imf_of weekday c) ≡ imf_of weekday c
unfolding trim_start
first_is_letter zero c lt = refl
first_is_letter (suc zero) c lt = refl
first_is_letter (suc (suc zero)) c lt = refl
first_is_letter (suc (suc (suc zero))) c lt = refl
first_is_letter (suc (suc (suc (suc zero)))) c lt = refl
first_is_letter (suc (suc (suc (suc (suc zero))))) c lt = refl
first_is_letter (suc (suc (suc (suc (suc (suc zero)))))) c lt = refl
first_is_letter (suc (suc (suc (suc (suc (suc (suc n))))))) c lt = absurd (omega arith)

last_is_letter : (front : List ℕ) → trim_end (front ++ codes " GMT") ≡ front ++ codes " GMT"
last_is_letter front =
    let split : front ++ codes " GMT" ≡ (front ++ codes " GM") ++ 84 ∷ [] = sym (append_assoc front (codes " GM") (84 ∷ [])) in
    trim_end-other (front ++ codes " GMT") 84 (front ++ codes " GM") split refl

pub trim_blanks-http_date : (date : ℕ) → trim_blanks (http_date date) ≡ http_date date
unfolding trim_blanks http_date
trim_blanks-http_date date =
    ap trim_end (first_is_letter ((date / 86_400_000 + 3) % 7) (civil_at date) (omega arith)) ∙ last_is_letter _
