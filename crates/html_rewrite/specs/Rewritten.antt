-- The page whose links lead to the archive.
use Rattle.std.specs.Prelude.{◌≡◌, ℕ, nat_le, List, length, Option, Some, None, if◌then◌else◌}
use Rattle.html_rewrite.specs.Pieces.{Piece, replaced}
use Rattle.html_rewrite.specs.Split.{IsSplit}

-- the text within the limit, or none
abbrev pub within : ℕ → List ℕ → Option (List ℕ)
within limit text = if nat_le (length text) limit then Some text else None

-- the page's pieces, where each link is replaced, if they are within the limit
pub record IsRewritten (limit : ℕ) (link : List ℕ → List ℕ) (page : List ℕ) (result : Option (List ℕ)) : Type 0 where
  pub pieces : List Piece
  pub split : IsSplit pieces page
  pub text : result ≡ within limit (replaced link pieces)
