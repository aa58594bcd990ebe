-- A warcinfo in parts, and why more of one is asked for.
use Rattle.std.specs.Prelude.{◌≡◌, ◌⊎◌, ℕ, ◌≤◌, List, ◌++◌, codes, length, ⊤}
use Rattle.time_text.specs.Texts.{InRange}
use Rattle.warc_text.specs.Ids.{IsUuid}
use Rattle.warc_text.specs.Lengths.{info_block_length}
use Rattle.warc_text.specs.Lines.{content_line, length_lines, opening, software_lines}
use Rattle.warc_text.specs.Records.{info_most, info_text}
use Rattle.warc_text.specs.declared.kind.RecordKind.TheVariants as kinds
use Rattle.record_opening.specs.OpenValues.{IsPartOfUuid, Begins, EndsInside}
use Rattle.record_opening.specs.declared.info_step.InfoStep.{InfoStep}
use Rattle.record_opening.specs.declared.info_step.InfoStep.TheVariants as info_step

-- ---- its text: the lines up to its date, and those from there up to its namespace, by which its id is known

abbrev pub info_front : List ℕ → ℕ → List ℕ
info_front id born = opening kinds.Info id born

abbrev pub namespace_mark : List ℕ
namespace_mark = codes "archive-namespace: "

abbrev pub info_middle : ℕ → List ℕ
info_middle volume = content_line kinds.Info ++ length_lines (info_block_length volume) ++ software_lines ++ namespace_mark

-- ---- where the bytes end

-- inside the lines up to the date, whatever the id is
pub record EndsInFront (bytes : List ℕ) : Type 0 where
  pub id : List ℕ
  pub born : ℕ
  pub id_is : IsUuid id
  pub date : InRange born
  pub ends : EndsInside (info_front id born) bytes

-- behind that date, before the namespace, or where that may go on
pub record EndsInMiddle (volume born : ℕ) (bytes : List ℕ) : Type 0 where
  pub id : List ℕ
  pub come : List ℕ
  pub id_is : IsUuid id
  pub composed : bytes ≡ info_front id born ++ come
  pub ends : Begins (info_middle volume) come ⊎ ((part : List ℕ) × (come ≡ info_middle volume ++ part) × IsPartOfUuid part)

-- or inside a warcinfo of that date
pub record EndsInInfo (volume born : ℕ) (bytes : List ℕ) : Type 0 where
  pub namespace : List ℕ
  pub namespace_is : IsUuid namespace
  pub begins : Begins (info_text namespace volume born) bytes

abbrev pub EndsBehindDate : ℕ → ℕ → List ℕ → Type 0
EndsBehindDate volume born bytes = EndsInMiddle volume born bytes ⊎ EndsInInfo volume born bytes

-- so many bytes has a warcinfo of this date
abbrev pub IsInfoLen : ℕ → ℕ → ℕ → Type 0
IsInfoLen volume born n = (namespace : List ℕ) → n ≡ length (info_text namespace volume born)

-- ---- asking: for the least length, that with a date of a whole second, until the date has come, and then for its length
abbrev pub IsInfoAskedFor : ℕ → List ℕ → ℕ → Type 0
IsInfoAskedFor volume bytes n =
    (EndsInFront bytes × IsInfoLen volume 0 n) ⊎ ((born : ℕ) × InRange born × EndsBehindDate volume born bytes × IsInfoLen volume born n)

abbrev pub AsksForInfo : ℕ → List ℕ → InfoStep → Type 0
AsksForInfo volume bytes (info_step.Info namespace born len) = ⊤
AsksForInfo volume bytes info_step.End = ⊤
AsksForInfo volume bytes info_step.Unfinished = ⊤
AsksForInfo volume bytes info_step.Damaged = ⊤
AsksForInfo volume bytes (info_step.Need n) = IsInfoAskedFor volume bytes n
AsksForInfo volume bytes info_step.Memory = ⊤

-- no more is asked for than a warcinfo may have
abbrev pub AsksForLittle : InfoStep → Type 0
AsksForLittle (info_step.Info namespace born len) = ⊤
AsksForLittle info_step.End = ⊤
AsksForLittle info_step.Unfinished = ⊤
AsksForLittle info_step.Damaged = ⊤
AsksForLittle (info_step.Need n) = n ≤ info_most
AsksForLittle info_step.Memory = ⊤

-- ---- stops
