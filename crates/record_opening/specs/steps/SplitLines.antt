-- A line at the front of bytes.
use Rattle.std.specs.Prelude.{◌≡◌, ℕ, List, ◌∷◌, ◌++◌}
use Rattle.httparse.specs.Ascii.{carriage_return}
use Rattle.warc_text.specs.Groups.{IsOneLine}

-- the bytes are a line, and what stands from its end on
pub record IsSplitLine (bytes line behind : List ℕ) : Type 0 where
  pub rest : List ℕ
  pub one : IsOneLine line
  pub ends : behind ≡ carriage_return ∷ rest
  pub composed : bytes ≡ line ++ behind
