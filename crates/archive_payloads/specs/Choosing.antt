-- What comparing a payload with those of captures answers. Payloads are equal byte for byte; digests decide nothing.
use Rattle.std.specs.Prelude.{◌≡◌, ◌≢◌, ℕ, ◌<◌, ◌≤◌, Bool, true, false, IsTrue, List, length, get_or, slice_get, Option, Some, None, Result, Ok, Err, ⊤}
use Rattle.sha1.specs.Sha1.{sha1}
use Rattle.capture.specs.Captures.{captures, IsPayloadOf}
use Rattle.capture.specs.declared.book.Book.{Book}
use Rattle.archive_shelf.specs.Answers.{IsDamaged}
use Rattle.archive_shelf.specs.Comparing.{HasWhole, IsRight, KeepsWire}
use Rattle.archive_shelf.specs.declared.fault.StoreFault.{StoreFault}
use Rattle.archive_shelf.specs.declared.fault.StoreFault.TheVariants as stores
use Rattle.archive_shelf.specs.declared.looked.Looked.{Looked}
use Rattle.archive_payloads.specs.declared.compare.Compared.{Compared}
use Rattle.archive_payloads.specs.declared.compare.Compared.TheVariants as compares
use Rattle.archive_volumes.specs.declared.spot.Spot.{Spot}

-- a fault of the disk is the answer
abbrev pub is_look_fault : {T : Type 0} → Result T StoreFault → Bool
is_look_fault (Ok value) = false
is_look_fault (Err (stores.Full count limit)) = false
is_look_fault (Err stores.DiskFault) = true
is_look_fault (Err (stores.Damaged number kept found)) = false
is_look_fault (Err stores.Memory) = false

-- no capture below a number is answered to be damaged: none of them was read
abbrev pub NoneDamagedBelow : {T : Type 0} → ℕ → Result T StoreFault → Type 0
NoneDamagedBelow from (Ok value) = ⊤
NoneDamagedBelow from (Err (stores.Full count limit)) = ⊤
NoneDamagedBelow from (Err stores.DiskFault) = ⊤
NoneDamagedBelow from (Err (stores.Damaged at kept found)) = from ≤ at
NoneDamagedBelow from (Err stores.Memory) = ⊤

-- ---- one capture

-- other bytes than the payload were read with the digest that is kept
abbrev pub IsOther : List ℕ → List ℕ → Type 0
IsOther kept payload = (bytes : List ℕ) × (sha1 bytes ≡ kept) × (bytes ≢ payload)

-- Whatever the disk tells: other bytes than the payload were read with the digest that is kept, and what is damaged has
-- another one.
abbrev pub IsComparison : List ℕ → List ℕ → Compared → Type 0
IsComparison kept payload compares.Same = ⊤
IsComparison kept payload compares.Other = IsOther kept payload
IsComparison kept payload (compares.Damaged found) = found ≢ Some kept

-- how bytes that were read compare with a payload; where they are damaged their digest isn't the one that is kept
abbrev pub Compares : List ℕ → List ℕ → List ℕ → Compared → Type 0
Compares kept bytes payload compares.Same = bytes ≡ payload
Compares kept bytes payload compares.Other = bytes ≢ payload
Compares kept bytes payload (compares.Damaged found) = sha1 bytes ≢ kept

-- what holds where it is answered to be the same
abbrev pub OnSame : Compared → Type 0 → Type 0
OnSame compares.Same holds = holds
OnSame compares.Other holds = ⊤
OnSame (compares.Damaged found) holds = ⊤

-- what holds of the digest that is told, where it is answered to be damaged
abbrev pub OnDamage : Compared → (Option (List ℕ) → Type 0) → Type 0
OnDamage compares.Same holds = ⊤
OnDamage compares.Other holds = ⊤
OnDamage (compares.Damaged found) holds = holds found

-- how the payload of the capture with this number compares, where the disk tells
abbrev pub ComparesWith : Book → ℕ → List ℕ → Compared → Type 0
ComparesWith book number payload compares.Same = IsPayloadOf book number payload
ComparesWith book number payload compares.Other = ¬ (IsPayloadOf book number payload)
ComparesWith book number payload (compares.Damaged found) = ⊥

-- ---- candidates

-- What asking one of them for the payload answers. Where there is the payload, the capture wasn't cut.
abbrev pub Asks : Bool → Book → ℕ → List ℕ → Result Bool StoreFault → Type 0
Asks tells book number payload (Ok true) = KeepsWire book number × (IsTrue tells → HasWhole book number payload)
Asks tells book number payload (Ok false) = IsTrue tells → ¬ (HasWhole book number payload)
Asks tells book number payload (Err (stores.Full count limit)) = ⊥
Asks tells book number payload (Err stores.DiskFault) = ⊤
Asks tells book number payload (Err (stores.Damaged at kept found)) = (at ≡ number) × IsDamaged tells kept found
Asks tells book number payload (Err stores.Memory) = ⊤

-- none of so many candidates has the payload, and wasn't cut
abbrev pub NoneHas : Book → List ℕ → ℕ → List ℕ → Type 0
NoneHas book candidates many payload = (k : ℕ) → k < many → ¬ (HasWhole book (get_or candidates k 0) payload)

-- it is a candidate that keeps its whole wire; where the disk tells it has the payload, and none before it has
pub record IsFirstOf (tells : Bool) (book : Book) (candidates payload : List ℕ) (number : ℕ) : Type 0 where
  pub place : ℕ
  pub within : place < length candidates
  pub is : number ≡ get_or candidates place 0
  pub keeps : KeepsWire book number
  pub has : IsTrue tells → HasWhole book number payload
  pub before : IsTrue tells → NoneHas book candidates place payload

-- a candidate is damaged
pub record IsDamagedOf (tells : Bool) (candidates : List ℕ) (number : ℕ) (kept : List ℕ) (found : Option (List ℕ)) : Type 0 where
  pub place : ℕ
  pub within : place < length candidates
  pub is : number ≡ get_or candidates place 0
  pub damaged : IsDamaged tells kept found

-- this digest is kept of the capture with this number
abbrev pub IsKeptWith : List Spot → List ℕ → ℕ → Type 0
IsKeptWith spots digest number = (spot : Spot) → slice_get spots number ≡ Some spot → spot.digest ≡ digest

-- what choosing among candidates answers: the first that has the payload, or that none has
abbrev pub Chooses : Bool → Book → List ℕ → List ℕ → Result (Option ℕ) StoreFault → Type 0
Chooses tells book candidates payload (Ok (Some number)) = IsFirstOf tells book candidates payload number
Chooses tells book candidates payload (Ok None) = IsTrue tells → NoneHas book candidates (length candidates) payload
Chooses tells book candidates payload (Err (stores.Full count limit)) = ⊥
Chooses tells book candidates payload (Err stores.DiskFault) = ⊤
Chooses tells book candidates payload (Err (stores.Damaged at kept found)) = IsDamagedOf tells candidates at kept found
Chooses tells book candidates payload (Err stores.Memory) = ⊤

-- ---- all captures

-- what looking for a payload among all captures answers, where some were looked at before
abbrev pub LooksOn : Bool → Book → List ℕ → Result Looked StoreFault → Type 0
LooksOn tells book payload (Ok looked) = IsRight tells book payload looked × (looked.upto ≡ length (captures book))
LooksOn tells book payload (Err (stores.Full count limit)) = ⊥
LooksOn tells book payload (Err stores.DiskFault) = ⊤
LooksOn tells book payload (Err (stores.Damaged at kept found)) = (at < length (captures book)) × IsDamaged tells kept found
LooksOn tells book payload (Err stores.Memory) = ⊤
