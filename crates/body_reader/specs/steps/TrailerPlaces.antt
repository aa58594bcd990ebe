-- A machine that finds the end of a trailer section byte by byte.
use Rattle.std.specs.Prelude.{ℕ, ◌==◌, List, [], ◌∷◌, if◌then◌else◌}
use Rattle.httparse.specs.Ascii.{line_feed, carriage_return}
use Rattle.body_reader.specs.declared.trailer.TrailerPlace.{TrailerPlace}
use Rattle.body_reader.specs.declared.trailer.TrailerPlace.TheVariants.{LineStart, LineStartCr, InLine, Ended}

-- the place after one more byte
abbrev pub next_place : TrailerPlace → ℕ → TrailerPlace
next_place LineStart b = if b == line_feed then Ended else (if b == carriage_return then LineStartCr else InLine)
next_place LineStartCr b = if b == line_feed then Ended else InLine
next_place InLine b = if b == line_feed then LineStart else InLine
next_place Ended b = Ended

-- the place after these bytes
abbrev pub place_after : TrailerPlace → List ℕ → TrailerPlace
place_after place [] = place
place_after place (b ∷ bytes) = place_after (next_place place b) bytes
