-- The lines of a volume, by what is kept of its captures in memory.
use Rattle.std.specs.Prelude.{◌≡◌, ℕ, ◌+◌, ◌<◌, ◌≤◌, List, length, slice_get, Some, Contains}
use Rattle.cdxj_line.specs.declared.line.Line.{Line}
use Rattle.archive_volumes.specs.declared.spot.Spot.{Spot}

-- the line tells what is kept of its capture: its target, its date, its method and the digest of its payload
pub record TellsSpot (spot : Spot) (line : Line) : Type 0 where
  pub url : line.url ≡ spot.uri
  pub date : line.date ≡ spot.date
  pub method : line.method ≡ spot.method
  pub digest : line.digest ≡ spot.digest

-- it tells what is kept of the capture with this number
abbrev pub TellsKept : List Spot → ℕ → Line → Type 0
TellsKept spots number line = (spot : Spot) → slice_get spots number ≡ Some spot → TellsSpot spot line

-- Whatever the disk tells: there is a line for each of so many captures, from one number on, and each tells what is kept of its capture.
pub record AreLinesOfSpots (spots : List Spot) (first count : ℕ) (lines : List Line) : Type 0 where
  pub count_is : length lines ≡ count
  pub each : (line : Line) → Contains lines line → (first ≤ line.number) × (line.number < first + count) × TellsKept spots line.number line
  pub all : (place : ℕ) → place < count → (line : Line) × Contains lines line × (line.number ≡ first + place)
