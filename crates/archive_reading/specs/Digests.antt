-- How what is read of one capture goes by the digest that is kept of it, whatever the disk tells.
use Rattle.std.specs.Prelude.{◌≡◌, ◌⊎◌, ℕ, List, slice_get, IfOk, Some, None, Result, Ok, Err, ⊤}
use Rattle.sha1.specs.Sha1.{sha1}
use Rattle.capture.specs.declared.captured.Brought.{Brought}
use Rattle.archive_shelf.specs.declared.fault.BringFault.{BringFault}
use Rattle.archive_shelf.specs.declared.fault.BringFault.TheVariants as brings
use Rattle.archive_volumes.specs.declared.spot.Form.TheVariants as forms
use Rattle.archive_volumes.specs.declared.spot.Spot.{Spot}

-- a capture that keeps its wire: the payload has its digest, or it is damaged
abbrev pub GoesByOwn : ℕ → List ℕ → Result Brought BringFault → Type 0
GoesByOwn number digest (Ok brought) = sha1 brought.payload ≡ digest
GoesByOwn number digest (Err (brings.NoSuch count)) = ⊤
GoesByOwn number digest (Err brings.DiskFault) = ⊤
GoesByOwn number digest (Err (brings.Damaged at kept found)) = (at ≡ number) × (kept ≡ digest)
GoesByOwn number digest (Err brings.Memory) = ⊤

-- one whose payload another one keeps: the payload has the digest of that one, or that one is damaged, or its own head is none
abbrev pub GoesByKeeper : ℕ → ℕ → List ℕ → Result Brought BringFault → Type 0
GoesByKeeper number first digest (Ok brought) = sha1 brought.payload ≡ digest
GoesByKeeper number first digest (Err (brings.NoSuch count)) = ⊤
GoesByKeeper number first digest (Err brings.DiskFault) = ⊤
GoesByKeeper number first digest (Err (brings.Damaged at kept found)) =
    ((at ≡ first) ⊎ ((at ≡ number) × (found ≡ None))) × (kept ≡ digest)
GoesByKeeper number first digest (Err brings.Memory) = ⊤

-- A revisit of which a line alone told: the payload has the digest of the line; or it is damaged under its own number, and no digest is told.
abbrev pub GoesByLine : ℕ → List ℕ → Result Brought BringFault → Type 0
GoesByLine number digest (Ok brought) = sha1 brought.payload ≡ digest
GoesByLine number digest (Err (brings.NoSuch count)) = ⊤
GoesByLine number digest (Err brings.DiskFault) = ⊤
GoesByLine number digest (Err (brings.Damaged at kept found)) = (at ≡ number) × (found ≡ None) × (kept ≡ digest)
GoesByLine number digest (Err brings.Memory) = ⊤

-- a payload that is brought has this digest
abbrev pub BringsDigest : List ℕ → Result Brought BringFault → Type 0
BringsDigest digest result = IfOk result (λ brought. sha1 brought.payload ≡ digest)

-- ---- which digest is kept of a payload

-- the capture itself, or the earlier one that keeps its payload, where that is known
abbrev pub IsKeptAt : List Spot → ℕ → ℕ → Type 0
IsKeptAt spots number at = (at ≡ number) ⊎ ((spot : Spot) × (slice_get spots number ≡ Some spot) × (spot.form ≡ forms.Same at))

-- the digest that is kept there
pub record HasKeptDigest (spots : List Spot) (number : ℕ) (digest : List ℕ) : Type 0 where
  pub at : ℕ
  pub spot : Spot
  pub kept : IsKeptAt spots number at
  pub placed : slice_get spots at ≡ Some spot
  pub is : digest ≡ spot.digest

-- whatever the disk tells, and whoever told of the capture: a payload that is brought has that digest; damage is told with it
abbrev pub GoesByKept : List Spot → ℕ → Result Brought BringFault → Type 0
GoesByKept spots number (Ok brought) = HasKeptDigest spots number (sha1 brought.payload)
GoesByKept spots number (Err (brings.NoSuch count)) = ⊤
GoesByKept spots number (Err brings.DiskFault) = ⊤
GoesByKept spots number (Err (brings.Damaged at kept found)) = HasKeptDigest spots number kept
GoesByKept spots number (Err brings.Memory) = ⊤
