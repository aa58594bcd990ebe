-- What stands first in a stream that holds a response which was cut.
use Rattle.std.specs.Prelude.{◌≡◌, ℕ, Bool, true, List, ◌++◌, drop}
use Rattle.httparse.specs.Grammar.{ResponseHead}
use Rattle.capture.specs.First.{Responses, BodyNeeded, IsFirst}
use Rattle.capture.specs.Message.{IsCutResponse}
use Rattle.capture.specs.declared.framing.Framing.{Framing}

-- of a response that was cut more of the body is needed, also where the stream has ended
abbrev pub CutResponsesNeedBody : Type 0
CutResponsesNeedBody =
    (answers_head ended : Bool) (head_text wire : List ℕ) (h : ResponseHead) (framing : Framing)
    → IsCutResponse answers_head head_text wire h framing
    → IsFirst (Responses answers_head) ended (head_text ++ wire) BodyNeeded

-- a response that was cut stands behind so many bytes of line ends
pub record HoldsCutResponse (answers_head : Bool) (stream : List ℕ) : Type 0 where
  pub skipped : ℕ
  pub head_text : List ℕ
  pub wire : List ℕ
  pub parsed : ResponseHead
  pub framing : Framing
  pub cut : IsCutResponse answers_head head_text wire parsed framing
  pub composed : drop skipped stream ≡ head_text ++ wire

-- a stream that has ended where more of a body is needed holds a response that was cut
abbrev pub EndedBodiesAreCut : Type 0
EndedBodiesAreCut =
    (answers_head : Bool) (stream : List ℕ) → IsFirst (Responses answers_head) true stream BodyNeeded
    → HoldsCutResponse answers_head stream
