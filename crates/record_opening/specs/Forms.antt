-- Values of a fixed length, by the bytes that may stand at each place of them.
use Rattle.std.specs.Prelude.{ℕ, ◌<◌, ◌==◌, Bool, ◌&&◌, ◌||◌, nat_le, if◌then◌else◌, List, length, slice_index, codes, IsTrue}

-- ---- a form has `9` for a decimal digit, `f` for a hexadecimal one in lower case, `7` for one of base32, and each other byte for itself

abbrev pub is_between : ℕ → ℕ → ℕ → Bool
is_between byte first last = nat_le first byte && nat_le byte last

abbrev pub is_decimal : ℕ → Bool
is_decimal byte = is_between byte 48 57

abbrev pub is_lower_hex : ℕ → Bool
is_lower_hex byte = is_decimal byte || is_between byte 97 102

-- RFC 4648, section 6
abbrev pub is_base32 : ℕ → Bool
is_base32 byte = is_between byte 65 90 || is_between byte 50 55

abbrev pub fits : ℕ → ℕ → Bool
fits form byte =
    if form == 57 then is_decimal byte
    else if form == 102 then is_lower_hex byte
    else if form == 55 then is_base32 byte
    else byte == form

-- ---- the forms

-- a date with a fraction of a second (ISO 8601); all but the last byte of one without begins so too
abbrev pub date_form : List ℕ
date_form = codes "9999-99-99T99:99:99.999Z"

-- RFC 9562, section 4
abbrev pub uuid_form : List ℕ
uuid_form = codes "ffffffff-ffff-ffff-ffff-ffffffffffff"

-- twenty bytes in base32
abbrev pub digest_form : List ℕ
digest_form = codes "77777777777777777777777777777777"

-- ---- less than a value: each byte fits its place, and another is due

pub record IsPartOfForm (form part : List ℕ) : Type 0 where
  pub short : length part < length form
  pub each : (k : ℕ) → k < length part → IsTrue (fits (slice_index form k) (slice_index part k))
