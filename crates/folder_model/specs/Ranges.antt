-- A file that was written in one range alone since a sync of it was done, or cut before that.
use Rattle.std.specs.Prelude.{◌≡◌, ◌≤◌, ℕ, ◌+◌, false, Option, Some, List, [], ◌∷◌, length, take, drop, ⊤}
use Rattle.disk_model.specs.Crash.{Torn}
use Rattle.folder_model.specs.File.{FileDeed, Made, Wrote, Shortened, Synced, Listed, Crash, MayHold, read_of}
use Rattle.folder_model.specs.Folder.{FolderPast, deeds_of}
use Rattle.folder_model.specs.Whole.{done_to}

-- Whatever a crash may leave of the file is what reads find, but for so many bytes at a place and for what stands behind its end. And with it a crash may leave all that a write of
-- these bytes tears of it, and each front of it that isn't shorter than what reads find. Where it is no byte at all the file is as it was synced, or a cut of that.
pub record IsTornIn (first : Option (List ℕ)) (deeds : List FileDeed) (at many : ℕ) : Type 0 where
  pub reading : List ℕ
  pub is : read_of first deeds ≡ Some reading
  pub inside : at ≤ length reading
  pub before : (bytes : List ℕ) → MayHold first deeds Crash bytes → take at bytes ≡ take at reading
  pub behind : (bytes : List ℕ) → MayHold first deeds Crash bytes → drop (at + many) (take (length reading) bytes) ≡ drop (at + many) reading
  pub again : (old bytes : List ℕ) → MayHold first deeds Crash old → Torn at many old bytes → MayHold first deeds Crash bytes
  pub fronts : (bytes : List ℕ) (len : ℕ) → length reading ≤ len → MayHold first deeds Crash bytes → MayHold first deeds Crash (take len bytes)

-- the file of a name is so
abbrev pub IsTornAt : FolderPast → List ℕ → ℕ → ℕ → Type 0
IsTornAt past name at many = IsTornIn (past.first name) (deeds_of name past.deeds) at many

-- each writes the first bytes of a range as they are read, cuts the file where it ends, or is a sync that failed
abbrev pub AreMending : ℕ → ℕ → List ℕ → List FileDeed → Type 0
AreMending at many reading [] = ⊤
AreMending at many reading (Made ∷ earlier) = ⊥
AreMending at many reading (Wrote place bytes rest ∷ earlier) =
    (place ≡ at) × (length bytes + rest ≤ many) × (bytes ≡ take (length bytes) (drop at reading)) × AreMending at many reading earlier
AreMending at many reading (Shortened len rest ∷ earlier) = (len ≡ length reading + rest) × AreMending at many reading earlier
AreMending at many reading (Synced done ∷ earlier) = (done ≡ false) × AreMending at many reading earlier
AreMending at many reading (Listed done ∷ earlier) = ⊥

-- Nothing else was done, where the file's bytes are these.
pub record MendsIn (name : List ℕ) (at many : ℕ) (reading : List ℕ) (old new : FolderPast) : Type 0 where
  pub deeds : List FileDeed
  pub mending : AreMending at many reading deeds
  pub whole : new ≡ done_to old name deeds
