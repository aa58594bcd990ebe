-- What the bytes of a volume are to be, and the verdict on them.
use Rattle.std.specs.Prelude.{◌≡◌, ◌⊎◌, ℕ, zero, suc, ◌+◌, ◌<◌, Bool, true, false, List, [], drop}
use Rattle.capture.specs.Tails.{IsRest}
use Rattle.warc_scan.specs.Answers.{BeginsWithGroup}
use Rattle.record_opening.specs.InfoAnswers.{BeginsWithInfo}
use Rattle.warc_scan.specs.declared.group.Group.{Group}
use Rattle.warc_text.specs.StandsFor.{commit_byte}
use Rattle.fixity.specs.declared.verdict.Verdict.{Verdict}
use Rattle.fixity.specs.declared.verdict.Verdict.TheVariants.{Sound, Damaged}

-- a volume as its archive knows it: its number, the archive's namespace, the number of its first capture, how many captures it has,
-- and whether it is the last one
pub record Volume : Type 0 where
  pub number : ℕ
  pub namespace : List ℕ
  pub first : ℕ
  pub count : ℕ
  pub last : Bool

abbrev pub volume_of : ℕ → List ℕ → ℕ → ℕ → Bool → Volume
volume_of number namespace first count last = record { number = number; namespace = namespace; first = first; count = count; last = last }

-- the volume's warcinfo stands at the front of the bytes, and ends at this place (ISO 28500, WARC 1.1, section 6.2)
pub record InfoEndsAt (number : ℕ) (namespace bytes : List ℕ) (place : ℕ) : Type 0 where
  pub born : ℕ
  pub begins : BeginsWithInfo number bytes namespace born place

-- the group of a capture stands from one place to another (section 6)
pub record GroupStands (namespace : List ℕ) (number : ℕ) (bytes : List ℕ) (from to : ℕ) : Type 0 where
  pub group : Group
  pub begins : BeginsWithGroup namespace number (drop from bytes) group
  pub ends : to ≡ from + group.len

-- the warcinfo stands, the groups of so many captures from the first on, one behind the other, and they end at this place
abbrev pub StandsUpTo : Volume → List ℕ → ℕ → ℕ → Type 0
StandsUpTo volume bytes zero place = InfoEndsAt volume.number volume.namespace bytes place
StandsUpTo volume bytes (suc n) place =
    (from : ℕ) × StandsUpTo volume bytes n from × GroupStands volume.namespace (volume.first + n) bytes from place

-- what may stand behind the groups: nothing, or in the last volume an unfinished tail
abbrev pub IsSoundRest : Bool → List ℕ → Type 0
IsSoundRest true rest = IsRest commit_byte rest
IsSoundRest false rest = rest ≡ []

-- no warcinfo of this volume stands there, so that it is damaged from its first byte on
abbrev pub LacksInfo : Volume → List ℕ → ℕ → Type 0
LacksInfo volume bytes place = (place ≡ 0) × ((end : ℕ) → ¬ (InfoEndsAt volume.number volume.namespace bytes end))

-- the warcinfo and so many groups stand, but behind them not that of the next capture, which is due
abbrev pub LacksGroup : Volume → List ℕ → ℕ → Type 0
LacksGroup volume bytes place =
    (n : ℕ) × (n < volume.count) × StandsUpTo volume bytes n place
    × ((to : ℕ) → ¬ (GroupStands volume.namespace (volume.first + n) bytes place to))

-- all groups stand, but what is behind them may not
abbrev pub HasOtherRest : Volume → List ℕ → ℕ → Type 0
HasOtherRest volume bytes place = StandsUpTo volume bytes volume.count place × ¬ (IsSoundRest volume.last (drop place bytes))

-- the verdict on the volume's bytes
abbrev pub IsVerdict : Volume → List ℕ → Verdict → Type 0
IsVerdict volume bytes (Sound place) = StandsUpTo volume bytes volume.count place × IsSoundRest volume.last (drop place bytes)
IsVerdict volume bytes (Damaged place) = LacksInfo volume bytes place ⊎ LacksGroup volume bytes place ⊎ HasOtherRest volume bytes place

-- a volume's bytes have one verdict, whoever reads them and in what order
abbrev pub VolumesHaveOneVerdict : Type 0
VolumesHaveOneVerdict = (volume : Volume) (bytes : List ℕ) (a b : Verdict) → IsVerdict volume bytes a → IsVerdict volume bytes b → a ≡ b
