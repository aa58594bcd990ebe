-- A book that only gained captures and volumes.
use Rattle.std.specs.Prelude.{◌≡◌, ℕ, ◌+◌, ◌<◌, List, ◌++◌, length, slice_get, Some}
use Rattle.capture.specs.declared.book.Book.{Book}
use Rattle.capture.specs.declared.book.Volume.{Volume}
use Rattle.capture.specs.declared.captured.Stored.{Stored}

-- A volume has gained captures at its end.
pub record HasGrown (old new : Volume) : Type 0 where
  pub added : List Stored
  pub born : new.born ≡ old.born
  pub captures : new.captures ≡ old.captures ++ added

-- The volume of this number has grown.
pub record HasGrownAt (volumes : List Volume) (k : ℕ) (old : Volume) : Type 0 where
  pub volume : Volume
  pub placed : slice_get volumes k ≡ Some volume
  pub grown : HasGrown old volume

-- The namespace is the same, each volume but the last is the same, and the last has grown. So the captures of the old
-- book are the first of the new one's.
pub record Grows (old new : Book) : Type 0 where
  pub namespace : new.namespace ≡ old.namespace
  pub sealed : (k : ℕ) → k + 1 < length old.volumes → slice_get new.volumes k ≡ slice_get old.volumes k
  pub last : (k : ℕ) (volume : Volume) → k + 1 ≡ length old.volumes → slice_get old.volumes k ≡ Some volume
      → HasGrownAt new.volumes k volume
