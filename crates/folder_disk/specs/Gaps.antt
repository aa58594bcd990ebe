-- Checkpoints that are missing, and that are made.
use Rattle.std.specs.Prelude.{◌≡◌, ◌≢◌, ◌⊎◌, ◌<◌, ◌^◌, ℕ, Some, None, List, [], ◌∷◌, ⊤}
use Rattle.disk_model.specs.Image.{Image}
use Rattle.disk_model.specs.declared.kind.Kind.{Kind}
use Rattle.disk_model.specs.declared.kind.Kind.TheVariants.{Warc, Cdxj}
use Rattle.folder_model.specs.File.{Made}
use Rattle.folder_model.specs.Folder.{Contents, FolderPast, contents_of, did_to, MayLeave}
use Rattle.folder_model.specs.Seen.{IsSeen}

-- A checkpoint isn't there, and its volume is, and a checkpoint of a greater number.
pub record IsGap (name : Kind → ℕ → List ℕ) (contents : Contents) (file : ℕ) : Type 0 where
  pub none : contents (name Cdxj file) ≡ None
  pub volume : contents (name Warc file) ≢ None
  pub greater : ℕ
  pub above : file < greater
  pub small : greater < 2 ^ 32
  pub there : contents (name Cdxj greater) ≢ None

-- A file that wasn't there is: a missing checkpoint, which is empty.
pub record IsMadeGap (name : Kind → ℕ → List ℕ) (old new : Contents) (n : List ℕ) : Type 0 where
  pub file : ℕ
  pub gap : IsGap name old file
  pub named : n ≡ name Cdxj file
  pub empty : new n ≡ Some []

-- the same under each name, but that missing checkpoints may be there, empty
abbrev pub IsFilled : (Kind → ℕ → List ℕ) → Contents → Contents → Type 0
IsFilled name old new = (n : List ℕ) → (new n ≡ old n) ⊎ IsMadeGap name old new n

-- an image is seen in these contents, once missing checkpoints are there
abbrev pub IsSeenFilled : (Kind → ℕ → List ℕ) → Contents → Image → Type 0
IsSeenFilled name old image = (contents : Contents) × IsFilled name old contents × IsSeen name contents image

-- the past in which these checkpoints were made behind all else, the newest first
abbrev pub with_made : (Kind → ℕ → List ℕ) → List ℕ → FolderPast → FolderPast
with_made name [] past = past
with_made name (file ∷ earlier) past = did_to (with_made name earlier past) (name Cdxj file) Made

-- each of them was missing at first, and when it was made
abbrev pub AreGaps : (Kind → ℕ → List ℕ) → FolderPast → List ℕ → Type 0
AreGaps name past [] = ⊤
AreGaps name past (file ∷ earlier) =
    IsGap name (contents_of past) file × (contents_of (with_made name earlier past) (name Cdxj file) ≡ None) × AreGaps name past earlier

-- Nothing was done but that checkpoints which were missing were made.
pub record OnlyFills (name : Kind → ℕ → List ℕ) (old new : FolderPast) : Type 0 where
  pub files : List ℕ
  pub gaps : AreGaps name old files
  pub whole : new ≡ with_made name files old

-- What a crash then may leave it might have left before, but that checkpoints which reads didn't find may be there, empty.
abbrev pub LeavesFilled : (Kind → ℕ → List ℕ) → FolderPast → FolderPast → Type 0
LeavesFilled name old new =
    (left : Contents) → MayLeave new left
    → (was : Contents) × MayLeave old was × ((n : List ℕ) → (left n ≡ was n) ⊎ ((was n ≡ None) × IsMadeGap name (contents_of old) left n))
