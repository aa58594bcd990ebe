-- A machine that finds the end of a head byte by byte.
use Rattle.std.specs.Prelude.{ℕ, ◌==◌, List, [], ◌∷◌, if◌then◌else◌}
use Rattle.httparse.specs.Ascii.{line_feed, carriage_return}
use Rattle.http_head.specs.declared.seek.Seek.{Seek}
use Rattle.http_head.specs.declared.seek.Seek.TheVariants.{Before, BeforeCr, Line, AfterLf, AfterLfCr, Ended}

-- the state after one more byte
abbrev pub next_seek : Seek → ℕ → Seek
next_seek Before b = if b == line_feed then Before else (if b == carriage_return then BeforeCr else Line)
next_seek BeforeCr b = if b == line_feed then Before else Line
next_seek Line b = if b == line_feed then AfterLf else Line
next_seek AfterLf b = if b == line_feed then Ended else (if b == carriage_return then AfterLfCr else Line)
next_seek AfterLfCr b = if b == line_feed then Ended else Line
next_seek Ended b = Ended

-- the state after these bytes
abbrev pub seek_after : Seek → List ℕ → Seek
seek_after seek [] = seek
seek_after seek (b ∷ bytes) = seek_after (next_seek seek b) bytes
