-- The moments of a disk in a folder: how many of the folder's deeds were done when each began.
use Rattle.std.specs.Prelude.{◌≡◌, ◌≤◌, ℕ, ◌-◌, nat_le, if◌then◌else◌, List, [], ◌∷◌, length, drop, ⊤}
use Rattle.disk_model.specs.Image.{Image}
use Rattle.disk_model.specs.declared.kind.Kind.{Kind}
use Rattle.folder_model.specs.Folder.{FolderPast}
use Rattle.folder_model.specs.Seen.{images_of}

-- A disk's clock: the deeds that were done when it was made, and when each moment after that began, the newest first.
pub record Times : Type 0 where
  pub made : ℕ
  pub begun : List ℕ

-- the moment
abbrev pub moment_of : Times → ℕ
moment_of times = length times.begun

-- the deeds that were done when the newest moment began
abbrev pub newest : ℕ → List ℕ → ℕ
newest made [] = made
newest made (n ∷ earlier) = n

-- when moment t began; of one that is to come, when the newest began
abbrev pub begun_at : ℕ → List ℕ → ℕ → ℕ
begun_at made [] t = made
begun_at made (n ∷ earlier) t = if nat_le (length (n ∷ earlier)) t then n else begun_at made earlier t

-- no moment began before an earlier one
abbrev pub Rises : ℕ → List ℕ → Type 0
Rises made [] = ⊤
Rises made (n ∷ earlier) = (newest made earlier ≤ n) × Rises made earlier

-- The clock of a folder in which so much was done: the newest moment began with the last deed.
pub record IsTimed (times : Times) (past : FolderPast) : Type 0 where
  pub rises : Rises times.made times.begun
  pub now : newest times.made times.begun ≡ length past.deeds

-- a moment more, which begins with the last deed
abbrev pub goes_on : Times → FolderPast → Times
goes_on times past = record times { begun = length past.deeds ∷ times.begun }

-- the past as it was after the first n deeds
abbrev pub past_at : FolderPast → ℕ → FolderPast
past_at past n = record past { deeds = drop (length past.deeds - n) past.deeds }

-- the images that a crash after a deed since moment t might have left
abbrev pub images_since_of : (Kind → ℕ → List ℕ) → FolderPast → Times → ℕ → Image → Type 0
images_since_of name past times t image =
    (n : ℕ) × (begun_at times.made times.begun t ≤ n) × (n ≤ length past.deeds) × images_of name (past_at past n) image
