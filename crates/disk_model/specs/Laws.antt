-- What the model promises to those who reason about files.
use Rattle.std.specs.Prelude.{◌≡◌, ◌<◌, ◌≤◌, ◌+◌, ℕ, List, [], ◌∷◌, ◌++◌, length, take, drop}
use Rattle.disk_model.specs.Image.{Image, written, file_of, files_of, file_count, with_file, with_new, IsApart}
use Rattle.disk_model.specs.Crash.{Torn, Cut, HasFile}
use Rattle.disk_model.specs.declared.kind.Kind.{Kind}

-- a write at the end leaves what was there, and of its bytes as many as it has at most
abbrev pub TornAppendStandsBehind : Type 0
TornAppendStandsBehind =
    (n : ℕ) (old new : List ℕ) → Torn (length old) n old new → (rest : List ℕ) × (new ≡ old ++ rest) × (length rest ≤ n)

-- a write of one byte in a file leaves all but that byte, which may be any
abbrev pub TornByteIsAlone : Type 0
TornByteIsAlone =
    (at : ℕ) (old new : List ℕ) → at < length old → Torn at 1 old new
    → (byte : ℕ) × (new ≡ take at old ++ byte ∷ drop (at + 1) old)

-- bytes written at the end stand behind those that were there
abbrev pub WrittenAtTheEndStandsBehind : Type 0
WrittenAtTheEndStandsBehind = (old bytes : List ℕ) → written old (length old) bytes ≡ old ++ bytes

-- one byte that is written takes the place of one
abbrev pub WrittenByteIsAlone : Type 0
WrittenByteIsAlone = (old : List ℕ) (at byte : ℕ) → written old at (byte ∷ []) ≡ take at old ++ byte ∷ drop (at + 1) old

-- a cut at the end of a text leaves it, and a front of what stood behind it
abbrev pub CutLeavesAFrontBehind : Type 0
CutLeavesAFrontBehind =
    (text rest new : List ℕ) → Cut (length text) (text ++ rest) new → (k : ℕ) × (new ≡ text ++ take k rest)

-- a change of one file leaves the others
abbrev pub OtherFilesStay : Type 0
OtherFilesStay =
    (image : Image) (kind : Kind) (file : ℕ) (bytes : List ℕ) (k : Kind) (f : ℕ) → IsApart kind file k f
    → file_of (with_file image kind file bytes) k f ≡ file_of image k f

-- a new file changes no bytes
abbrev pub NewFileChangesNoBytes : Type 0
NewFileChangesNoBytes = (image : Image) (kind : Kind) (k : Kind) (f : ℕ) → file_of (with_new image kind) k f ≡ file_of image k f

-- Where each file of a kind that the reading has stands in an image as in the reading, and the image has no more of
-- them, it has the reading's files of that kind. That holds of no files too.
abbrev pub SyncedKindIsAsRead : Type 0
SyncedKindIsAsRead =
    (reading image : Image) (kind : Kind)
    → ((file : ℕ) → file < file_count reading kind → HasFile kind file (file_of reading kind file) image)
    → file_count image kind ≤ file_count reading kind
    → files_of image kind ≡ files_of reading kind
