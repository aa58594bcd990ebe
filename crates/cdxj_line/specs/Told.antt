-- What the texts of lines tell those who read them.
use Rattle.std.specs.Prelude.{◌≡◌, ◌≢◌, ℕ, List, [], ◌∷◌, ◌++◌, All}
use Rattle.cdxj_line.specs.Lines.{IsLine, line_text}
use Rattle.cdxj_line.specs.declared.line.Line.{Line}

-- lines with one text are one line
abbrev pub LinesAreToldByTheirTexts : Type 0
LinesAreToldByTheirTexts = (a b : Line) → IsLine a → IsLine b → line_text a ≡ line_text b → a ≡ b

-- the text is a line feed with no other one before it
pub record EndsAtItsLineFeed (text : List ℕ) : Type 0 where
  pub body : List ℕ
  pub ended : text ≡ body ++ 10 ∷ []
  pub only : All (λ b. b ≢ 10) body

-- the only line feed of a line is its last byte
abbrev pub LinesEndAtTheirLineFeed : Type 0
LinesEndAtTheirLineFeed = (line : Line) → IsLine line → EndsAtItsLineFeed (line_text line)

-- no line is the beginning of another, so a text is cut into lines in one way
abbrev pub LinesEndWhereTheyEnd : Type 0
LinesEndWhereTheyEnd =
    (a b : Line) (x y : List ℕ) → IsLine a → IsLine b → line_text a ++ x ≡ line_text b ++ y → (a ≡ b) × (x ≡ y)
