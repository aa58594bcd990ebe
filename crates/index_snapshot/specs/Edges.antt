-- Beginnings of the one list that is published, and how they are known.
use Rattle.std.specs.Prelude.{◌≡◌, ◌==◌, ℕ, true, List, [], ◌∷◌, ◌++◌, length, MatchBool}
use Rattle.logbook.specs.Pages.{Book, Cell, Named, Step, View}

-- A beginning of the list of items that a book keeps.
pub record Edge (E : Type 0) : Type 0 where
  pub of : Book
  pub items : List E

-- the first word is the length of the list
pub record IsKept {E : Type 0} (cells : List Cell) (log : List E) : Type 0 where
  pub words : cells ≡ (length log, true) ∷ (0, true) ∷ []

-- the word that counts the list's items
abbrev pub head_of : Book → Named
head_of b = record { tracked = true; key = 0; book = b }

-- the item was added to all that had been seen; or the list was longer
abbrev pub Adds : {E : Type 0} → Step E → View E ℕ → ℕ → View E ℕ → Type 0
Adds s v found w = MatchBool (found == s.old) (w.0 ≡ v.0 ++ s.ask ∷ []) (Unit {0})

-- the edge with one item more
abbrev pub with_item : {E : Type 0} → Edge E → E → Edge E
with_item edge item = record { of = edge.of; items = edge.items ++ item ∷ [] }
