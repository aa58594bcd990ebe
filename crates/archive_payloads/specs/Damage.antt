-- What damage is told with, and which candidates are passed over, whatever is told of the book.
use Rattle.std.specs.Prelude.{◌≡◌, ◌≢◌, ◌⊎◌, ℕ, ◌<◌, Bool, true, false, IsTrue, List, length, get_or, slice_get, Option, Some, None, ⊤}
use Rattle.capture.specs.Captures.{is_cut}
use Rattle.warc_scan.specs.declared.group.Group.{Group}
use Rattle.archive_shelf.specs.declared.fault.BringFault.{BringFault}
use Rattle.archive_shelf.specs.declared.fault.BringFault.TheVariants as brings
use Rattle.archive_shelf.specs.declared.fault.StoreFault.{StoreFault}
use Rattle.archive_shelf.specs.declared.fault.StoreFault.TheVariants as stores
use Rattle.archive_payloads.specs.Choosing.{IsOther}
use Rattle.archive_reading.specs.Rereading.{IsFoundThere, StandsThere}
use Rattle.archive_volumes.specs.Spots.{is_same_form, is_told_form}
use Rattle.archive_volumes.specs.declared.spot.Spot.{Spot}

-- ---- a capture that is brought

-- What is found of a capture's payload where another one, or the capture itself, is told to be damaged. Of a revisit's own records no digest is found.
-- Of a capture that keeps the payload it is what is found by the bytes that stand there; but one of which another digest is kept isn't read.
pub record IsFoundOf (texts : List (List ℕ)) (namespace : List ℕ) (spots : List Spot) (number at : ℕ) (found : Option (List ℕ)) : Type 0 where
  pub revisit : (spot : Spot) → slice_get spots at ≡ Some spot → is_same_form spot.form ≡ true → found ≡ None
  pub other : (spot keeper : Spot) → slice_get spots number ≡ Some spot → slice_get spots at ≡ Some keeper → keeper.digest ≢ spot.digest
      → found ≡ Some spot.digest
  pub there : (spot keeper : Spot) → slice_get spots number ≡ Some spot → slice_get spots at ≡ Some keeper → is_same_form keeper.form ≡ false
      → keeper.digest ≡ spot.digest → IsFoundThere texts spots namespace at keeper found

-- where the disk tells: damage of the capture with this number is told with that
abbrev pub TellsFound : List (List ℕ) → List ℕ → List Spot → ℕ → BringFault → Type 0
TellsFound texts namespace spots number (brings.NoSuch count) = ⊤
TellsFound texts namespace spots number brings.DiskFault = ⊤
TellsFound texts namespace spots number (brings.Damaged at kept found) = IsFoundOf texts namespace spots number at found
TellsFound texts namespace spots number brings.Memory = ⊤

-- ---- captures that are looked at

-- whatever the disk tells, damage is told with the digest that is kept; where it tells, with what is found by the bytes that stand there
abbrev pub TellsDamage : Bool → List (List ℕ) → List ℕ → List Spot → StoreFault → Type 0
TellsDamage tells texts namespace spots (stores.Full count limit) = ⊤
TellsDamage tells texts namespace spots stores.DiskFault = ⊤
TellsDamage tells texts namespace spots (stores.Damaged at kept found) =
    (spot : Spot) → slice_get spots at ≡ Some spot → (kept ≡ spot.digest) × (IsTrue tells → IsFoundThere texts spots namespace at spot found)
TellsDamage tells texts namespace spots stores.Memory = ⊤

-- a group stands at the capture's place that tells what is kept of it, and that its response was cut
pub record StandsCut (texts : List (List ℕ)) (namespace : List ℕ) (number : ℕ) (spot : Spot) : Type 0 where
  pub group : Group
  pub stands : StandsThere texts namespace number spot group
  pub cut : is_cut group.stored.kept ≡ true

-- A candidate is passed over: other bytes than the payload were read of it with the digest that is kept; or a line alone told of it, and it turns out to be
-- cut, where the disk tells.
abbrev pub IsPassedOver : Bool → List (List ℕ) → List ℕ → List Spot → List ℕ → ℕ → Type 0
IsPassedOver tells texts namespace spots payload number =
    (spot : Spot) → slice_get spots number ≡ Some spot
    → IsOther spot.digest payload ⊎ ((is_told_form spot.form ≡ true) × (IsTrue tells → StandsCut texts namespace number spot))

-- so many candidates are
abbrev pub ArePassedOver : Bool → List (List ℕ) → List ℕ → List Spot → List ℕ → List ℕ → ℕ → Type 0
ArePassedOver tells texts namespace spots candidates payload many =
    (k : ℕ) → k < many → IsPassedOver tells texts namespace spots payload (get_or candidates k 0)

-- those before the one that is found, or all of them
abbrev pub PassesOver : Bool → List (List ℕ) → List ℕ → List Spot → List ℕ → List ℕ → Option ℕ → Type 0
PassesOver tells texts namespace spots candidates payload (Some number) =
    (place : ℕ) × (place < length candidates) × (number ≡ get_or candidates place 0)
    × ArePassedOver tells texts namespace spots candidates payload place
PassesOver tells texts namespace spots candidates payload None =
    ArePassedOver tells texts namespace spots candidates payload (length candidates)
