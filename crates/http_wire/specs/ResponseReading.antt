-- A reader of responses, as contracts see it.
use Rattle.std.specs.Prelude.{ℕ, Bool, List, [], Option, None}
use Rattle.http_head.specs.declared.head.ResponseHead.{ResponseHead}
use Rattle.http_wire.specs.Reading.{Standing, Open}

-- whether its responses answer HEAD, the bytes that came since it was new, the head once it has come, and what the reader
-- has come to
pub record ResponseReading : Type 0 where
  pub answers_head : Bool
  pub stream : List ℕ
  pub head : Option ResponseHead
  pub standing : Standing

-- nothing has come
abbrev pub new_response : Bool → ResponseReading
new_response answers_head = record { answers_head = answers_head; stream = []; head = None; standing = Open }
