-- When more bytes are asked for: what came is right, up to a value that may go on, or up to a block whose length has come.
use Rattle.std.specs.Prelude.{◌≡◌, ◌⊎◌, ℕ, ◌+◌, List, ◌++◌, length, ⊤}
use Rattle.warc_text.specs.Ids.{id_of}
use Rattle.warc_text.specs.Lines.{ended, length_lines}
use Rattle.warc_text.specs.Records.{request_opening}
use Rattle.warc_text.specs.declared.id.IdKind.TheVariants as ids
use Rattle.record_opening.specs.Blocks.{EndsInsideBlock, IsWord}
use Rattle.record_opening.specs.Openings.{IsOpening, Opening}
use Rattle.record_opening.specs.OpenValues.{Begins, EndsInside}
use Rattle.record_opening.specs.declared.no_record.NoRecord.{NoRecord}
use Rattle.record_opening.specs.declared.no_record.NoRecord.TheVariants as no_record
use Rattle.record_opening.specs.FirstOpenings.{first_opening}
use Rattle.warc_scan.specs.declared.group_step.GroupStep.{GroupStep}
use Rattle.warc_scan.specs.declared.group_step.GroupStep.TheVariants as group_step

-- what stands from the block of a group's first record to that of its second
abbrev pub second_opening : List ℕ → ℕ → Opening → List ℕ
second_opening namespace number o =
    request_opening (id_of namespace ids.Request number) (id_of namespace ids.Response number) o.date o.uri

-- the text stands before the block of a record of a group: the first, or the second, behind the first with any block
pub record BeforeSecond (namespace : List ℕ) (number : ℕ) (o : Opening) (text : List ℕ) : Type 0 where
  pub block : List ℕ
  pub composed : text ≡ (first_opening namespace number o ++ ended block) ++ second_opening namespace number o

abbrev pub IsBeforeBlock : List ℕ → ℕ → Opening → List ℕ → Type 0
IsBeforeBlock namespace number o text = (text ≡ first_opening namespace number o) ⊎ BeforeSecond namespace number o text

-- the bytes end inside the opening of a group's first record
pub record EndsInFirst (namespace : List ℕ) (number : ℕ) (bytes : List ℕ) : Type 0 where
  pub o : Opening
  pub right : IsOpening o
  pub ends : EndsInside (first_opening namespace number o) bytes

-- inside that of its second, all of which is known
pub record EndsInSecond (namespace : List ℕ) (number : ℕ) (bytes : List ℕ) : Type 0 where
  pub o : Opening
  pub block : List ℕ
  pub come : List ℕ
  pub right : IsOpening o
  pub composed : bytes ≡ (first_opening namespace number o ++ ended block) ++ come
  pub begins : Begins (second_opening namespace number o) come

-- or inside the length of the block of one of them
pub record EndsInLength (namespace : List ℕ) (number : ℕ) (bytes : List ℕ) : Type 0 where
  pub o : Opening
  pub before : List ℕ
  pub len : ℕ
  pub come : List ℕ
  pub right : IsOpening o
  pub is_before : IsBeforeBlock namespace number o before
  pub word : IsWord len
  pub composed : bytes ≡ before ++ come
  pub ends : EndsInside (length_lines len) come

-- there one byte more is asked for
abbrev pub EndsInOpening : List ℕ → ℕ → List ℕ → ℕ → Type 0
EndsInOpening namespace number bytes n =
    (EndsInFirst namespace number bytes ⊎ EndsInSecond namespace number bytes ⊎ EndsInLength namespace number bytes) × (n ≡ length bytes + 1)

-- the bytes end inside the block of a record of a group, or inside the two line ends behind it: the record ends there
pub record EndsInBlock (namespace : List ℕ) (number : ℕ) (bytes : List ℕ) (n : ℕ) : Type 0 where
  pub o : Opening
  pub before : List ℕ
  pub right : IsOpening o
  pub is_before : IsBeforeBlock namespace number o before
  pub block : EndsInsideBlock before bytes n

-- why a group is asked for up to its byte n
abbrev pub IsAskedFor : List ℕ → ℕ → List ℕ → ℕ → Type 0
IsAskedFor namespace number bytes n = EndsInOpening namespace number bytes n ⊎ EndsInBlock namespace number bytes n

-- why an answer asks for more, where it does
abbrev pub AsksForGroup : List ℕ → ℕ → List ℕ → GroupStep → Type 0
AsksForGroup namespace number bytes (group_step.Group group) = ⊤
AsksForGroup namespace number bytes group_step.End = ⊤
AsksForGroup namespace number bytes group_step.Unfinished = ⊤
AsksForGroup namespace number bytes group_step.Damaged = ⊤
AsksForGroup namespace number bytes (group_step.Need n) = IsAskedFor namespace number bytes n
AsksForGroup namespace number bytes group_step.Memory = ⊤

abbrev pub AsksForMore : List ℕ → ℕ → List ℕ → NoRecord → Type 0
AsksForMore namespace number bytes no_record.End = ⊤
AsksForMore namespace number bytes no_record.Unfinished = ⊤
AsksForMore namespace number bytes no_record.Damaged = ⊤
AsksForMore namespace number bytes (no_record.Need n) = IsAskedFor namespace number bytes n
AsksForMore namespace number bytes no_record.Memory = ⊤
