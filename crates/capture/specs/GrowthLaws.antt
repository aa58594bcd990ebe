-- What a book that has grown keeps.
use Rattle.std.specs.Prelude.{◌≡◌, ℕ, List, ◌++◌}
use Rattle.capture.specs.Captures.{captures, IsPayloadOf}
use Rattle.capture.specs.Growth.{Grows}
use Rattle.capture.specs.declared.book.Book.{Book}
use Rattle.capture.specs.declared.captured.Stored.{Stored}

-- the captures of a book that has grown are those it had, and others behind them
abbrev pub GrowthKeepsCaptures : Type 0
GrowthKeepsCaptures =
    (old new : Book) → Grows old new → (added : List Stored) × (captures new ≡ captures old ++ added)

-- a book has grown from itself
abbrev pub GrowsFromItself : Type 0
GrowsFromItself = (book : Book) → Grows book book

-- what has grown twice has grown
abbrev pub GrowthGoesOn : Type 0
GrowthGoesOn = (first second third : Book) → Grows first second → Grows second third → Grows first third

-- each capture keeps its payload
abbrev pub GrowthKeepsPayloads : Type 0
GrowthKeepsPayloads =
    (old new : Book) (number : ℕ) (payload : List ℕ) → Grows old new → IsPayloadOf old number payload → IsPayloadOf new number payload
