-- A record's block behind its opening, and the line ends behind it (ISO 28500, WARC 1.1, section 4).
use Rattle.std.specs.Prelude.{◌≡◌, ℕ, ◌+◌, ◌<◌, ◌^◌, List, ◌++◌, length}
use Rattle.warc_text.specs.Lines.{length_lines}

-- a number of 64 bits
abbrev pub IsWord : ℕ → Type 0
IsWord n = n < 2 ^ 64

-- the length of a block has come, and the record ends with its byte n, behind the block and two line ends
pub record EndsInsideBlock (opening bytes : List ℕ) (n : ℕ) : Type 0 where
  pub len : ℕ
  pub come : List ℕ
  pub composed : bytes ≡ opening ++ length_lines len ++ come
  pub whole : n ≡ length (opening ++ length_lines len) + len + 4
  pub inside : length bytes < n
  pub short : n < 2 ^ 63
