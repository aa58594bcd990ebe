-- The opening of a group's first record, up to its block: what it says, and the block's length.
use Rattle.std.specs.Prelude.{◌≡◌, ℕ, ◌+◌, ◌<◌, ◌≤◌, Bool, true, List, ◌++◌, length, ⊤}
use Rattle.capture.specs.Target.{IsAcceptedAs}
use Rattle.warc_text.specs.Lines.{length_lines}
use Rattle.warc_text.specs.Ids.{id_of}
use Rattle.warc_text.specs.declared.id.IdKind.TheVariants as ids
use Rattle.record_opening.specs.Blocks.{IsWord}
use Rattle.record_opening.specs.Openings.{IsOpening, Opening, opening_of, opening_text}
use Rattle.record_opening.specs.OpenValues.{EndsInside}
use Rattle.record_opening.specs.declared.no_record.NoRecord.{NoRecord}
use Rattle.record_opening.specs.declared.no_record.NoRecord.TheVariants as no_record
use Rattle.record_opening.specs.declared.first_opening.FirstOpening.{FirstOpening}
use Rattle.record_opening.specs.Rests.{MayFollow, IsEnd, IsUnfinished, IsCommittedRest}

-- what a group begins with, up to the block of its first record
abbrev pub first_opening : List ℕ → ℕ → Opening → List ℕ
first_opening namespace number o = opening_text (id_of namespace ids.Response number) o

-- what an opening says that is right, and a length of 64 bits
abbrev pub IsFirst : Opening × ℕ → Type 0
IsFirst first = IsOpening first.0 × IsWord first.1

-- its text, that of the length with it
abbrev pub first_lines : List ℕ → ℕ → Opening × ℕ → List ℕ
first_lines namespace number first = first_opening namespace number first.0 ++ length_lines first.1

-- it stands at the front of the bytes
abbrev pub StandsFirst : List ℕ → ℕ → List ℕ → Opening × ℕ → Type 0
StandsFirst namespace number bytes first = IsFirst first × ((rest : List ℕ) × (bytes ≡ first_lines namespace number first ++ rest))

-- the bytes begin with this opening
abbrev pub said_in : FirstOpening → Opening × ℕ
said_in first = (opening_of first.opening, first.block_len)

pub record BeginsWithOpening (namespace : List ℕ) (number : ℕ) (bytes : List ℕ) (first : FirstOpening) : Type 0 where
  pub stands : StandsFirst namespace number bytes (said_in first)
  pub block_at : first.block_at ≡ length (first_lines namespace number (said_in first))
  pub target : IsAcceptedAs first.opening.uri.now first.opening.url

-- what it says where none is told: whatever follows the bytes, none stands first, or one that does has this length or a greater one
abbrev pub HasNoOpening : List ℕ → ℕ → Bool → List ℕ → Type 0
HasNoOpening namespace number more bytes =
    (after : List ℕ) (first : Opening × ℕ) → MayFollow more after → ¬ (StandsFirst namespace number (bytes ++ after) first)

abbrev pub OpeningsReach : List ℕ → ℕ → List ℕ → ℕ → Type 0
OpeningsReach namespace number bytes n =
    (after : List ℕ) (first : Opening × ℕ) → StandsFirst namespace number (bytes ++ after) first → n ≤ length (first_lines namespace number first)

abbrev pub TellsNoOpening : List ℕ → ℕ → Bool → List ℕ → NoRecord → Type 0
TellsNoOpening namespace number more bytes no_record.End = IsEnd more bytes
TellsNoOpening namespace number more bytes no_record.Unfinished = IsUnfinished more bytes
TellsNoOpening namespace number more bytes no_record.Damaged = IsCommittedRest more bytes × HasNoOpening namespace number more bytes
TellsNoOpening namespace number more bytes (no_record.Need n) =
    (more ≡ true) × (length bytes < n) × OpeningsReach namespace number bytes n × ¬ (IsUnfinished more bytes)
TellsNoOpening namespace number more bytes no_record.Memory = ⊤

-- why one byte more is asked for: the bytes end inside one
abbrev pub AsksForOpening : List ℕ → ℕ → List ℕ → NoRecord → Type 0
AsksForOpening namespace number bytes no_record.End = ⊤
AsksForOpening namespace number bytes no_record.Unfinished = ⊤
AsksForOpening namespace number bytes no_record.Damaged = ⊤
AsksForOpening namespace number bytes (no_record.Need n) =
    ((first : Opening × ℕ) × IsFirst first × EndsInside (first_lines namespace number first) bytes) × (n ≡ length bytes + 1)
AsksForOpening namespace number bytes no_record.Memory = ⊤
