-- The response of a group, by the block of its record.
use Rattle.std.specs.Prelude.{◌≡◌, ◌≢◌, ℕ, ◌≤◌, List, [], ◌++◌, length, Some, Result, Ok, ⊤}
use Rattle.httparse.specs.Grammar.{ResponseHead}
use Rattle.capture.specs.Captures.{is_cut, kept_wire}
use Rattle.capture.specs.Head.{head_end}
use Rattle.capture.specs.WellFormed.{TellsBody}
use Rattle.capture.specs.declared.captured.Kept.{Kept}
use Rattle.capture.specs.declared.captured.Kept.TheVariants.{Wire, Same, Cut}
use Rattle.capture.specs.declared.framing.Framing.{Framing}
use Rattle.capture.specs.declared.framing.Framing.TheVariants.{Empty}
use Rattle.capture.specs.declared.framing.FramingFault.{FramingFault}
use Rattle.http_head.specs.Heads.{HoldsResponse}
use Rattle.record_opening.specs.Openings.{opening_of}
use Rattle.record_opening.specs.declared.opening.Opening.{Opening}
use Rattle.record_opening.specs.declared.stop.Stop.{Stop}
use Rattle.record_opening.specs.declared.stop.Stop.TheVariants.{Open, Until, Wrong, Memory}
use Rattle.warc_scan.specs.Groups.{HasPayloadLen, IsAnswer, unknown_number}
use Rattle.warc_scan.specs.declared.answer.Answer.{Answer}
use Rattle.warc_scan.specs.declared.answer.Form.{Form}
use Rattle.warc_scan.specs.declared.answer.Form.TheVariants as forms
use Rattle.warc_scan.specs.declared.answer.Parts.{Parts}
use Rattle.warc_scan.specs.declared.answer.Told.{Told}

-- the block is the head and the wire that is kept, and they are a response of which the opening speaks
pub record IsAnswerOf (method block : List ℕ) (opening : Opening) (head : List ℕ) (kept : Kept) : Type 0 where
  pub composed : block ≡ head ++ kept_wire kept
  pub cut_is : is_cut kept ≡ opening.cut
  pub answer : IsAnswer method head opening.digest (opening_of opening).same kept

-- a text is split behind its head, which is that of a final response of these parts
pub record AreParts (parts : Parts) : Type 0 where
  pub ends : head_end parts.head.now ≡ Some (length parts.head.now)
  pub holds : HoldsResponse parts.head.now parts.parsed
  pub final : 200 ≤ parts.parsed.status

-- nothing stands behind the head, which tells of a body
abbrev pub TellsOfBody : List ℕ → Parts → Type 0
TellsOfBody method parts =
    (parsed : ResponseHead) × (framing : Framing) × (parts.wire.now ≡ []) × TellsBody method parts.head.now parsed framing

-- what is kept, by its form and the wire that stands there
abbrev pub kept_by : Form → List ℕ → Kept
kept_by forms.Whole wire = Wire wire
kept_by forms.Revisit wire = Same unknown_number
kept_by forms.Cut wire = Cut wire

-- the head and the wire are the response of which the opening speaks, in this form, and with a payload of this length
pub record IsToldBy (method : List ℕ) (parts : Parts) (opening : Opening) (told : Told) : Type 0 where
  pub is : IsAnswerOf method (parts.head.now ++ parts.wire.now) opening parts.head.now (kept_by told.form parts.wire.now)
  pub all : kept_wire (kept_by told.form parts.wire.now) ≡ parts.wire.now
  pub payload_len : HasPayloadLen method parts.head.now (kept_by told.form parts.wire.now) told.payload_len

-- the block is a response that was read
pub record IsRead (method block : List ℕ) (opening : Opening) (answer : Answer) : Type 0 where
  pub is : IsAnswerOf method block opening answer.head.now (kept_by answer.form answer.wire.now)
  pub all : kept_wire (kept_by answer.form answer.wire.now) ≡ answer.wire.now
  pub payload_len : HasPayloadLen method answer.head.now (kept_by answer.form answer.wire.now) answer.payload_len
  pub parsed : HoldsResponse answer.head.now answer.parsed

-- a head that tells of a body, however long that is
abbrev pub IsSomeBody : Result Framing FramingFault → Type 0
IsSomeBody told = (framing : Framing) × (told ≡ Ok framing) × (framing ≢ Empty)

-- a message that is there whole is one, or is none
abbrev pub IsMessageStop : Stop → Type 0
IsMessageStop Open = ⊥
IsMessageStop (Until n) = ⊥
IsMessageStop Wrong = ⊤
IsMessageStop Memory = ⊤
