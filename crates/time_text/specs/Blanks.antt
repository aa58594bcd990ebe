-- Blanks round a text: space and tab (RFC 9110, 5.6.3).
use Rattle.std.specs.Prelude.{ℕ, Bool, ◌||◌, ◌==◌, List, [], ◌∷◌, reverse, if◌then◌else◌}

abbrev pub is_blank : ℕ → Bool
is_blank byte = (byte == 32) || (byte == 9)

-- the text from its first byte on that is no blank
unfoldable pub trim_start : List ℕ → List ℕ
trim_start [] = []
trim_start (byte ∷ rest) = if is_blank byte then trim_start rest else byte ∷ rest

-- the text up to its last byte that is no blank
unfoldable pub trim_end : List ℕ → List ℕ
trim_end text = reverse (trim_start (reverse text))

-- the text without the blanks at both ends
unfoldable pub trim_blanks : List ℕ → List ℕ
trim_blanks text = trim_end (trim_start text)
