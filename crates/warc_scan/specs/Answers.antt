-- What an answer on a group says of the rest of a volume: the bytes that are there, and those that follow where there are more.
use Rattle.std.specs.Prelude.{◌≡◌, ℕ, ◌<◌, ◌≤◌, Bool, true, List, ◌++◌, length, ⊤}
use Rattle.record_opening.specs.declared.no_record.NoRecord.{NoRecord}
use Rattle.record_opening.specs.declared.no_record.NoRecord.TheVariants as no_record
use Rattle.record_opening.specs.Rests.{MayFollow, IsEnd, IsUnfinished, IsCommittedRest}
use Rattle.warc_scan.specs.Groups.{IsGroup}
use Rattle.warc_scan.specs.declared.group.Group.{Group}
use Rattle.warc_scan.specs.declared.group_step.GroupStep.{GroupStep}
use Rattle.warc_scan.specs.declared.group_step.GroupStep.TheVariants as group_step

-- the bytes begin with this group
pub record BeginsWithGroup (namespace : List ℕ) (number : ℕ) (bytes : List ℕ) (group : Group) : Type 0 where
  pub text : List ℕ
  pub rest : List ℕ
  pub composed : bytes ≡ text ++ rest
  pub is : IsGroup namespace number text group

-- whatever follows, no group stands first
abbrev pub HasNoGroup : List ℕ → ℕ → Bool → List ℕ → Type 0
HasNoGroup namespace number more bytes =
    (after : List ℕ) (group : Group) → MayFollow more after → ¬ (BeginsWithGroup namespace number (bytes ++ after) group)

-- whatever follows, a group that stands first has this length or a greater one
abbrev pub GroupsReach : List ℕ → ℕ → List ℕ → ℕ → Type 0
GroupsReach namespace number bytes n =
    (after : List ℕ) (group : Group) → BeginsWithGroup namespace number (bytes ++ after) group → n ≤ group.len

-- what an answer on a group says
abbrev pub TellsGroup : List ℕ → ℕ → Bool → List ℕ → GroupStep → Type 0
TellsGroup namespace number more bytes (group_step.Group group) = BeginsWithGroup namespace number bytes group
TellsGroup namespace number more bytes group_step.End = IsEnd more bytes
TellsGroup namespace number more bytes group_step.Unfinished = IsUnfinished more bytes
TellsGroup namespace number more bytes group_step.Damaged = IsCommittedRest more bytes × HasNoGroup namespace number more bytes
TellsGroup namespace number more bytes (group_step.Need n) =
    (more ≡ true) × (length bytes < n) × GroupsReach namespace number bytes n × ¬ (IsUnfinished more bytes)
TellsGroup namespace number more bytes group_step.Memory = ⊤

-- and what it says
abbrev pub TellsNoGroup : List ℕ → ℕ → Bool → List ℕ → NoRecord → Type 0
TellsNoGroup namespace number more bytes no_record.End = IsEnd more bytes
TellsNoGroup namespace number more bytes no_record.Unfinished = IsUnfinished more bytes
TellsNoGroup namespace number more bytes no_record.Damaged = IsCommittedRest more bytes × HasNoGroup namespace number more bytes
TellsNoGroup namespace number more bytes (no_record.Need n) =
    (more ≡ true) × (length bytes < n) × GroupsReach namespace number bytes n × ¬ (IsUnfinished more bytes)
TellsNoGroup namespace number more bytes no_record.Memory = ⊤
