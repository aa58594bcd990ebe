-- Why what was found isn't gathered, and what a refusal tells.
use Rattle.std.specs.Prelude.{⊤, ℕ, ◌≡◌, ◌≢◌, ◌⊎◌, ◌+◌, ◌<◌, List, [], length, slice_get, Some, None, Option}
use Rattle.capture.specs.Captures.{captures}
use Rattle.capture.specs.declared.book.Book.{Book}
use Rattle.capture.specs.declared.book.Volume.{Volume}
use Rattle.volume_scan.specs.declared.found.Found.{Found}
use Rattle.volume_scan.specs.declared.found.Found.TheVariants as founds
use Rattle.warc_journal.specs.declared.place.Place.{Place}
use Rattle.warc_scan.specs.declared.group.Group.{Group}
use Rattle.archive_shelf.specs.declared.fault.ReopenFault.{ReopenFault}
use Rattle.archive_shelf.specs.declared.fault.ReopenFault.TheVariants as faults
use Rattle.archive_gathering.specs.Noting.{IsPast}
use Rattle.capture.specs.Faults.{Rose}
use Rattle.disk_model.specs.declared.kind.Kind.TheVariants.{Warc}

-- a volume without a capture is the last one
pub record HasEmptyLast (book : Book) : Type 0 where
  pub number : ℕ
  pub volume : Volume
  pub last : number + 1 ≡ length book.volumes
  pub placed : slice_get book.volumes number ≡ Some volume
  pub none : volume.captures ≡ []

-- the book doesn't go on with a volume in this namespace: it has another one, or a last volume without a capture
abbrev pub IsUnfitVolume : Book → List ℕ → Type 0
IsUnfitVolume book namespace = (0 < length book.volumes) × ((namespace ≢ book.namespace) ⊎ HasEmptyLast book)

-- nor with a group of this number: it passes a bound, or refers to another capture
abbrev pub IsUnfitGroup : ℕ → Place → Group → Type 0
IsUnfitGroup number place group = IsPast number place group ⊎ (group.same ≢ None)

-- what was found at a place doesn't go on with the book
abbrev pub IsUnfitAt : Book → Found → ℕ → ℕ → Type 0
IsUnfitAt book (founds.Info volume namespace born) file place =
    (file ≡ volume) × (place ≡ 0) × (volume ≡ length book.volumes → IsUnfitVolume book namespace)
IsUnfitAt book (founds.Group at read) file place = (file ≡ at.volume) × (place ≡ at.at) × IsUnfitGroup (length (captures book)) at read.group
IsUnfitAt book founds.End file place = ⊥

-- and is the cause, or there was no memory
abbrev pub IsUnfit : Book → Found → ReopenFault → Type 0
IsUnfit book found (faults.Damaged kind file place) = IsUnfitAt book found file place
IsUnfit book found (faults.OtherNamespace other) = ⊥
IsUnfit book found faults.DiskFault = ⊥
IsUnfit book found faults.Memory = ⊤

-- ---- what a refusal tells

-- a count of faults rises just where a disk fault is answered
abbrev pub CountsFault : ℕ → ℕ → ReopenFault → Type 0
CountsFault before now (faults.Damaged kind file place) = now ≡ before
CountsFault before now (faults.OtherNamespace other) = now ≡ before
CountsFault before now faults.DiskFault = Rose before now
CountsFault before now faults.Memory = now ≡ before

-- the fault names the book's namespace, which isn't the one that is asked for
abbrev pub IsOther : Book → Option (List ℕ) → ReopenFault → Type 0
IsOther book asked (faults.Damaged kind file place) = ⊥
IsOther book None (faults.OtherNamespace other) = ⊥
IsOther book (Some namespace) (faults.OtherNamespace other) = (book.namespace ≡ other) × (other ≢ namespace)
IsOther book asked faults.DiskFault = ⊥
IsOther book asked faults.Memory = ⊥

-- another namespace than the one that is asked for
abbrev pub Differs : Option (List ℕ) → List ℕ → Type 0
Differs None other = ⊥
Differs (Some namespace) other = other ≢ namespace

-- whatever the disk tells: damage is that of volumes, and another namespace is answered only where one is asked for that differs
abbrev pub IsCause : Option (List ℕ) → ReopenFault → Type 0
IsCause asked (faults.Damaged kind file place) = kind ≡ Warc
IsCause asked (faults.OtherNamespace other) = Differs asked other
IsCause asked faults.DiskFault = ⊤
IsCause asked faults.Memory = ⊤
