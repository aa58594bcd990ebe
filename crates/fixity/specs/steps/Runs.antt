-- Groups that stand one behind the other.
use Rattle.std.specs.Prelude.{◌≡◌, ◌⊎◌, ℕ, zero, suc, ◌+◌, ◌<◌, ◌≤◌, List, ⊤}
use Rattle.fixity.specs.Verdicts.{GroupStands, StandsUpTo, Volume}
use Rattle.fixity.specs.declared.run.Run.{Run}
use Rattle.fixity.specs.declared.run.RunEnd.{RunEnd}
use Rattle.fixity.specs.declared.run.RunEnd.TheVariants.{Whole, Missing, Need}

-- so many from this number on stand at the front of the bytes, and end at this place
abbrev pub RunsTo : List ℕ → ℕ → List ℕ → ℕ → ℕ → Type 0
RunsTo namespace number bytes zero place = place ≡ 0
RunsTo namespace number bytes (suc n) place =
    (from : ℕ) × RunsTo namespace number bytes n from × GroupStands namespace (number + n) bytes from place

-- no group with this number stands at the place
abbrev pub NoneStandsAt : List ℕ → ℕ → List ℕ → ℕ → Type 0
NoneStandsAt namespace number bytes place = (to : ℕ) → ¬ (GroupStands namespace number bytes place to)

-- why the run ends
abbrev pub EndsBy : List ℕ → ℕ → ℕ → List ℕ → ℕ → ℕ → RunEnd → Type 0
EndsBy namespace number most bytes groups len Whole = groups ≡ most
EndsBy namespace number most bytes groups len Missing = (groups < most) × NoneStandsAt namespace (number + groups) bytes len
EndsBy namespace number most bytes groups len (Need n) = ⊤

-- the groups at the front of the bytes, at most so many
pub record IsRun (namespace : List ℕ) (number most : ℕ) (bytes : List ℕ) (run : Run) : Type 0 where
  pub stands : RunsTo namespace number bytes run.groups run.len
  pub ends : EndsBy namespace number most bytes run.groups run.len run.end

-- of what was read, and of what there is: more bytes are asked for than were read
abbrev pub EndFits : ℕ → ℕ → ℕ → RunEnd → Type 0
EndFits read room len Whole = ⊤
EndFits read room len Missing = ⊤
EndFits read room len (Need n) = (read < len + n) × (len + n ≤ room)

pub record RunFits (read room most : ℕ) (run : Run) : Type 0 where
  pub few : run.groups ≤ most
  pub inside : run.len ≤ read
  pub first : run.groups ≡ 0 → run.len ≡ 0
  pub end : EndFits read room run.len run.end

-- the volume stands so far, and either all its groups do or the next one doesn't
pub record IsFarthest (volume : Volume) (bytes : List ℕ) (groups place : ℕ) : Type 0 where
  pub stands : StandsUpTo volume bytes groups place
  pub far : (groups ≡ volume.count) ⊎ NoneStandsAt volume.namespace (volume.first + groups) bytes place
