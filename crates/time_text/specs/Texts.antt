-- A date is a number of milliseconds since 1970-01-01T00:00:00Z. These are the texts of a date.
use Rattle.std.specs.Prelude.{ℕ, ◌+◌, ◌-◌, ◌*◌, ◌/◌, ◌%◌, ◌≤◌, ◌==◌, List, [], ◌∷◌, ◌++◌, take, slice_index_or, codes, if◌then◌else◌}
use Rattle.time_text.specs.declared.TheConstants.{LATEST}
use Rattle.time_text.specs.declared.civil.Civil.{Civil}
use Rattle.time_text.specs.Calendar.{civil_at}

-- the dates that have texts: those of the years 1970 to 9999
abbrev pub InRange : ℕ → Type 0
InRange date = date ≤ LATEST

-- a number below 100, in two digits
abbrev pub two_digits : ℕ → List ℕ
two_digits n = (48 + n / 10) ∷ (48 + n % 10) ∷ []

-- a number below 1000, in three digits
abbrev pub three_digits : ℕ → List ℕ
three_digits n = (48 + n / 100) ∷ two_digits (n % 100)

-- a number below 10000, in four digits
abbrev pub four_digits : ℕ → List ℕ
four_digits n = two_digits (n / 100) ++ two_digits (n % 100)

-- the date without its fraction of a second
abbrev pub whole_second : ℕ → ℕ
whole_second date = date / 1000 * 1000

-- `20240131120000400`
abbrev pub digits_of : Civil → List ℕ
digits_of c =
    four_digits c.year ++ two_digits c.month ++ two_digits c.day ++ two_digits c.hour
    ++ two_digits c.minute ++ two_digits c.second ++ three_digits c.millisecond

-- `12:00:00`
abbrev pub clock_of : Civil → List ℕ
clock_of c =
    two_digits c.hour ++ codes ":" ++ two_digits c.minute ++ codes ":" ++ two_digits c.second

-- nothing at a whole second, else `.400`
abbrev pub fraction_of : Civil → List ℕ
fraction_of c = if c.millisecond == 0 then [] else codes "." ++ three_digits c.millisecond

-- `2024-01-31T12:00:00Z` or `2024-01-31T12:00:00.400Z` (ISO 28500, WARC-Date; the extended format
-- of ISO 8601)
abbrev pub warc_of : Civil → List ℕ
warc_of c =
    four_digits c.year ++ codes "-" ++ two_digits c.month ++ codes "-" ++ two_digits c.day
    ++ codes "T" ++ clock_of c ++ fraction_of c ++ codes "Z"

-- the name of a day of the week, from 0 for Monday
abbrev pub day_name : ℕ → List ℕ
day_name weekday =
    slice_index_or (codes "Mon" ∷ codes "Tue" ∷ codes "Wed" ∷ codes "Thu" ∷ codes "Fri"
    ∷ codes "Sat" ∷ codes "Sun" ∷ []) weekday []

-- the name of a month, from 1 for January
abbrev pub month_name : ℕ → List ℕ
month_name month =
    slice_index_or
    (codes "Jan" ∷ codes "Feb" ∷ codes "Mar" ∷ codes "Apr" ∷ codes "May" ∷ codes "Jun"
    ∷ codes "Jul" ∷ codes "Aug" ∷ codes "Sep" ∷ codes "Oct" ∷ codes "Nov" ∷ codes "Dec" ∷ [])
    (month - 1) []

-- `Wed, 31 Jan 2024 12:00:00 GMT` (RFC 9110, 5.6.7: IMF-fixdate), at a day of the week
abbrev pub imf_of : ℕ → Civil → List ℕ
imf_of weekday c =
    day_name weekday ++ codes ", " ++ two_digits c.day ++ codes " " ++ month_name c.month
    ++ codes " " ++ four_digits c.year ++ codes " " ++ clock_of c ++ codes " GMT"

-- all the digits of a date: year, month, day, hour, minute, second and millisecond
unfoldable pub all_digits : ℕ → List ℕ
all_digits date = digits_of (civil_at date)

-- how many of them say the whole date: those up to the second, where that is whole
abbrev pub count_of_digits : ℕ → ℕ
count_of_digits date = if date % 1000 == 0 then 14 else 17

-- the digits of a date: 14 for a whole second, else 17
unfoldable pub time_digits : ℕ → List ℕ
time_digits date = take (count_of_digits date) (all_digits date)

-- the date as a WARC record has it
unfoldable pub warc_date : ℕ → List ℕ
warc_date date = warc_of (civil_at date)

-- the second of the date as an HTTP field has it; 1970-01-01 was a Thursday
unfoldable pub http_date : ℕ → List ℕ
http_date date = imf_of ((date / 86_400_000 + 3) % 7) (civil_at date)
