-- What came of a body.
use Rattle.std.specs.Prelude.{ℕ, List, ◌++◌}
use Rattle.capture.specs.declared.framing.Framing.{Framing}

-- a framing, and the bytes that came behind the head
pub record BodyStream : Type 0 where
  pub framing : Framing
  pub stream : List ℕ

-- the same with more bytes
abbrev pub further_on : BodyStream → List ℕ → BodyStream
further_on body bytes = record { framing = body.framing; stream = body.stream ++ bytes }
