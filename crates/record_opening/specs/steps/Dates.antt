-- How long a WARC-Date is that stands at the front.
use Rattle.std.specs.Prelude.{◌≡◌, ℕ, ◌<◌, ◌≤◌, List, ◌++◌, length}
use Rattle.time_text.specs.Texts.{warc_date}

-- it has this length, or a greater one where fewer bytes have come
pub record IsDateLen (bytes : List ℕ) (len : ℕ) : Type 0 where
  pub most : length bytes < len → length bytes < 24
  pub fits : len ≤ length bytes → (date : ℕ) (after other : List ℕ) → bytes ++ after ≡ warc_date date ++ other → len ≡ length (warc_date date)
  pub more : length bytes < len → (date : ℕ) (after other : List ℕ) → bytes ++ after ≡ warc_date date ++ other → length bytes < length (warc_date date)
