-- A group by its place.
use Rattle.std.specs.Prelude.{◌≡◌, ℕ, List, drop, take, ⊤, ◌≤◌, length}
use Rattle.warc_journal.specs.declared.place.Place.{Place}
use Rattle.warc_scan.specs.Answers.{BeginsWithGroup}
use Rattle.warc_scan.specs.declared.group.Group.{Group}
use Rattle.volume_scan.specs.Unread.{file_at}
use Rattle.volume_scan.specs.declared.fault.ScanFault.{ScanFault}
use Rattle.volume_scan.specs.declared.fault.ScanFault.TheVariants.{Damaged, DiskFault, Memory}
use Rattle.warc_scan.specs.Groups.{IsGroup}

-- what the files hold there
abbrev pub bytes_at : Place → List (List ℕ) → List ℕ
bytes_at place files = take place.len (drop place.at (file_at files place.volume))

-- where damage is answered the bytes begin with no group of this number
abbrev pub IsMissingAt : List ℕ → ℕ → List ℕ → ScanFault → Type 0
IsMissingAt namespace number bytes (Damaged file at) = (group : Group) → ¬ (BeginsWithGroup namespace number bytes group)
IsMissingAt namespace number bytes DiskFault = ⊤
IsMissingAt namespace number bytes Memory = ⊤

-- and the place is named
abbrev pub NamesPlace : Place → ScanFault → Type 0
NamesPlace place (Damaged file at) = (file ≡ place.volume) × (at ≡ place.at)
NamesPlace place DiskFault = ⊤
NamesPlace place Memory = ⊤

-- a group that is short enough for the room
pub record HasGroupText (namespace : List ℕ) (number room : ℕ) (group : Group) : Type 0 where
  pub text : List ℕ
  pub is : IsGroup namespace number text group
  pub fits : length text ≤ room
