-- Which bytes may be the beginning of a value in a record's opening or in a warcinfo, where such a value begins, and when bytes end
-- inside a text.
use Rattle.std.specs.Prelude.{◌≡◌, ◌⊎◌, ℕ, ◌<◌, ◌^◌, List, [], ◌++◌, codes, decimal, IsTrue, length}
use Rattle.capture.specs.Target.{is_target_text}
use Rattle.record_opening.specs.Forms.{IsPartOfForm, date_form, digest_form, uuid_form}

-- ---- what each value stands behind

abbrev pub IsDateMark : List ℕ → Type 0
IsDateMark mark = (mark ≡ codes "WARC-Date: ") ⊎ (mark ≡ codes "WARC-Refers-To-Date: ")

abbrev pub IsTargetMark : List ℕ → Type 0
IsTargetMark mark = (mark ≡ codes "WARC-Target-URI: ") ⊎ (mark ≡ codes "WARC-Refers-To-Target-URI: ")

abbrev pub digest_mark : List ℕ
digest_mark = codes "WARC-Payload-Digest: sha1:"

abbrev pub refers_mark : List ℕ
refers_mark = codes "WARC-Refers-To: <urn:uuid:"

-- the id of a warcinfo isn't known before its namespace is
abbrev pub info_mark : List ℕ
info_mark = codes "WARC/1.1\r\nWARC-Type: warcinfo\r\nWARC-Record-ID: <urn:uuid:"

abbrev pub IsUuidMark : List ℕ → Type 0
IsUuidMark mark = (mark ≡ refers_mark) ⊎ (mark ≡ info_mark)

abbrev pub length_mark : List ℕ
length_mark = codes "Content-Length: "

-- ---- what may have come of it: the beginning of a value, as far as that is told by the bytes at each place

abbrev pub IsPartOfDate : List ℕ → Type 0
IsPartOfDate part = IsPartOfForm date_form part

abbrev pub IsPartOfTarget : List ℕ → Type 0
IsPartOfTarget part = IsTrue (is_target_text part)

abbrev pub IsPartOfDigest : List ℕ → Type 0
IsPartOfDigest part = IsPartOfForm digest_form part

abbrev pub IsPartOfUuid : List ℕ → Type 0
IsPartOfUuid part = IsPartOfForm uuid_form part

-- of a number of 64 bits, which ends with its line: nothing, or such a number
abbrev pub IsPartOfNumber : List ℕ → Type 0
IsPartOfNumber part = (part ≡ []) ⊎ ((n : ℕ) × (n < 2 ^ 64) × (part ≡ decimal n))

-- behind this mark
abbrev pub IsPartBehind : List ℕ → List ℕ → Type 0
IsPartBehind mark part =
    (IsDateMark mark × IsPartOfDate part) ⊎ (IsTargetMark mark × IsPartOfTarget part)
    ⊎ ((mark ≡ digest_mark) × IsPartOfDigest part) ⊎ (IsUuidMark mark × IsPartOfUuid part)
    ⊎ ((mark ≡ length_mark) × IsPartOfNumber part)

-- what was given ends where a value begins, of which this part may have come
pub record IsOpenValue (given part : List ℕ) : Type 0 where
  pub before : List ℕ
  pub mark : List ℕ
  pub ends : given ≡ before ++ mark
  pub value : IsPartBehind mark part

-- the text begins with the bytes, and goes on behind them
pub record Begins (text bytes : List ℕ) : Type 0 where
  pub behind : List ℕ
  pub composed : text ≡ bytes ++ behind
  pub more : 0 < length behind

-- the bytes are the beginning of the text, or that up to where a value begins, and what may be the beginning of another value
pub record EndsInside (text bytes : List ℕ) : Type 0 where
  pub given : List ℕ
  pub part : List ℕ
  pub behind : List ℕ
  pub begins : text ≡ given ++ behind
  pub more : 0 < length behind
  pub composed : bytes ≡ given ++ part
  pub value : (part ≡ []) ⊎ IsOpenValue given part
