-- What an answer on a warcinfo says of the rest of a volume.
use Rattle.std.specs.Prelude.{◌≡◌, ℕ, ◌<◌, ◌≤◌, Bool, true, List, ◌++◌, length, ⊤}
use Rattle.record_opening.specs.Infos.{IsInfo}
use Rattle.record_opening.specs.declared.info_step.InfoStep.{InfoStep}
use Rattle.record_opening.specs.declared.info_step.InfoStep.TheVariants as info_step
use Rattle.record_opening.specs.Rests.{MayFollow, IsEnd, IsUnfinished, IsCommittedRest}

-- the bytes begin with this warcinfo
pub record BeginsWithInfo (volume : ℕ) (bytes namespace : List ℕ) (born len : ℕ) : Type 0 where
  pub text : List ℕ
  pub rest : List ℕ
  pub composed : bytes ≡ text ++ rest
  pub is : IsInfo volume text namespace born len

-- whatever follows, no warcinfo stands first
abbrev pub HasNoInfo : ℕ → Bool → List ℕ → Type 0
HasNoInfo volume more bytes =
    (after namespace : List ℕ) (born len : ℕ) → MayFollow more after
    → ¬ (BeginsWithInfo volume (bytes ++ after) namespace born len)

-- whatever follows, a warcinfo that stands first has this length or a greater one
abbrev pub InfosReach : ℕ → List ℕ → ℕ → Type 0
InfosReach volume bytes n =
    (after namespace : List ℕ) (born len : ℕ) → BeginsWithInfo volume (bytes ++ after) namespace born len → n ≤ len

-- what an answer on a warcinfo says
abbrev pub TellsInfo : ℕ → Bool → List ℕ → InfoStep → Type 0
TellsInfo volume more bytes (info_step.Info namespace born len) = BeginsWithInfo volume bytes namespace born len
TellsInfo volume more bytes info_step.End = IsEnd more bytes
TellsInfo volume more bytes info_step.Unfinished = IsUnfinished more bytes
TellsInfo volume more bytes info_step.Damaged = IsCommittedRest more bytes × HasNoInfo volume more bytes
TellsInfo volume more bytes (info_step.Need n) =
    (more ≡ true) × (length bytes < n) × InfosReach volume bytes n × ¬ (IsUnfinished more bytes)
TellsInfo volume more bytes info_step.Memory = ⊤
