-- The beginning of a warcinfo up to its date, and why no warcinfo is read.
use Rattle.std.specs.Prelude.{◌≡◌, ℕ, ◌<◌, Bool, true, false, List, length}
use Rattle.time_text.specs.Texts.{InRange}
use Rattle.warc_text.specs.Ids.{IsUuid}
use Rattle.warc_text.specs.Records.{info_text}
use Rattle.record_opening.specs.Infos.{IsInfo}
use Rattle.record_opening.specs.Stops.{IsLineStop, Refuses}
use Rattle.record_opening.specs.declared.info_step.InfoStep.{InfoStep}
use Rattle.record_opening.specs.declared.info_step.InfoStep.TheVariants as info_step
use Rattle.record_opening.specs.declared.stop.Stop.{Stop}
use Rattle.record_opening.specs.declared.stop.Stop.TheVariants.{Open, Until, Wrong, Memory}
use Rattle.record_opening.specs.InfoParts.{info_front, EndsBehindDate}

-- an id and a date
abbrev pub IsInfoFront : List ℕ × ℕ → Type 0
IsInfoFront front = IsUuid front.0 × InRange front.1

abbrev pub front_of_info : List ℕ × ℕ → List ℕ
front_of_info front = info_front front.0 front.1

-- behind a date that stands no namespace does, and no warcinfo with it
pub record NoNamespaceStands (volume born : ℕ) (stop : Stop) (bytes : List ℕ) : Type 0 where
  pub refuses : (text namespace : List ℕ) (date len : ℕ) → IsInfo volume text namespace date len → Refuses stop bytes text
  pub line : IsLineStop stop
  pub ends : stop ≡ Open → EndsBehindDate volume born bytes
  pub inside : stop ≡ Open → (namespace : List ℕ) → length bytes < length (info_text namespace volume born)

-- the answer where a text of lines doesn't stand, which has so many bytes
abbrev pub IsAnswerTo : Stop → Bool → ℕ → InfoStep → Type 0
IsAnswerTo Open true len step = step ≡ info_step.Need len
IsAnswerTo Open false len step = step ≡ info_step.Damaged
IsAnswerTo (Until n) more len step = ⊥
IsAnswerTo Wrong more len step = step ≡ info_step.Damaged
IsAnswerTo Memory more len step = step ≡ info_step.Memory
