-- A page in pieces.
use Rattle.std.specs.Prelude.{ℕ, List}
use Rattle.std.specs.List.{flat_map}

-- a piece that stays as it is, or a value that holds a link
pub data Piece : Type 0 where
  Plain : List ℕ → Piece
  Value : List ℕ → Piece

-- the piece, where a value is replaced
abbrev pub piece_with : (List ℕ → List ℕ) → Piece → List ℕ
piece_with link (Plain text) = text
piece_with link (Value text) = link text

-- the pieces joined, where each value is replaced
abbrev pub replaced : (List ℕ → List ℕ) → List Piece → List ℕ
replaced link pieces = flat_map (piece_with link) pieces

-- the pieces joined as they are
abbrev pub joined : List Piece → List ℕ
joined pieces = replaced (λ text. text) pieces
