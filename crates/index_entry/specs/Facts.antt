-- What the index knows of a capture.
use Rattle.std.specs.Prelude.{◌≡◌, ℕ, ◌≤◌, List, [], Some}
use Rattle.surt_key.specs.Key.{key_of}
use Rattle.time_text.specs.Texts.{InRange}

pub record Facts : Type 0 where
  pub key : List ℕ
  pub date : ℕ
  pub number : ℕ
  pub uri : List ℕ
  pub mime : List ℕ
  pub status : ℕ
  pub digest : List ℕ
  pub volume : ℕ
  pub offset : ℕ
  pub length : ℕ

-- what stands past the end of a list
abbrev pub past_end : Facts
past_end = record { key = []; date = 0; number = 0; uri = []; mime = []; status = 0; digest = []; volume = 0; offset = 0; length = 0 }

-- the date has a text, the status is of three digits, and the key is that of the uri
pub record IsEntry (key : List ℕ) (date status : ℕ) (uri : List ℕ) : Type 0 where
  pub in_range : InRange date
  pub status_from : 100 ≤ status
  pub status_to : status ≤ 999
  pub keyed : key_of uri ≡ Some key
