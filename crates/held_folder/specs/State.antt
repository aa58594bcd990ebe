-- A disk over a folder as contracts see it.
use Rattle.std.specs.Prelude.{◌≡◌, ◌⊎◌, ◌+◌, ℕ, Bool, true, false, IsTrue, None, List, []}
use Rattle.disk_model.specs.Image.{Image}
use Rattle.disk_model.specs.declared.kind.Kind.{Kind}
use Rattle.disk_model.specs.declared.kind.Kind.TheVariants.{Warc, Cdxj}
use Rattle.folder_model.specs.Folder.{FolderPast}
use Rattle.folder_model.specs.Seen.{images_of}
use Rattle.folder_model.specs.Times.{Times, moment_of, goes_on, images_since_of}
use Rattle.folder_model.specs.Known.{Knows, reading_of}
use Rattle.folder_files.specs.Counting.{known_of}
use Rattle.held_folder.specs.Doubts.{doubts_of, AreTorn, further_of, IsFurther}
use Rattle.held_folder.specs.declared.trust.Further.TheVariants.{Absent}
use Rattle.held_folder.specs.declared.trust.Trust.{Trust}

-- what was done in the folder, how many files of each kind the disk knows of, how far it is trusted, and its clock
pub record State : Type 0 where
  pub past : FolderPast
  pub warc : ℕ
  pub cdxj : ℕ
  pub trust : Trust
  pub times : Times

-- The state of a disk that has no folder: that of one without files, in which nothing was done.
unfoldable pub no_folder : State
no_folder = record {
  past = record { first = λ name. None; there = true; deeds = [] };
  warc = 0;
  cdxj = 0;
  trust = record { gave_up = false; warc = None; cdxj = None; further_warc = Absent; further_cdxj = Absent };
  times = record { made = 0; begun = [] };
}

-- what a read gives
unfoldable pub reading : (Kind → ℕ → List ℕ) → State → Image
reading name s = reading_of name s.past (known_of s.warc s.cdxj)

-- what the disk knows is so
pub record IsKnown (name : Kind → ℕ → List ℕ) (s : State) : Type 0 where
  pub knows : Knows name s.past (known_of s.warc s.cdxj) s.trust.gave_up (doubts_of s.trust) s.times (reading name s)
  pub torn : s.trust.gave_up ≡ false → AreTorn name s.past s.trust
  pub further : (kind : Kind) → IsFurther (further_of s.trust kind) s.past (name kind (known_of s.warc s.cdxj kind))

-- the images that a crash now may leave, where the folder tells: what a read gives, and those of the folder
abbrev pub images : Bool → (Kind → ℕ → List ℕ) → State → Image → Type 0
images tells name s image = IsTrue tells × ((image ≡ reading name s) ⊎ (IsKnown name s × images_of name s.past image))

-- the images that a crash since a moment might have left
abbrev pub images_since : Bool → (Kind → ℕ → List ℕ) → State → ℕ → Image → Type 0
images_since tells name s t image = IsTrue tells × ((image ≡ reading name s) ⊎ (IsKnown name s × images_since_of name s.past s.times t image))

-- the state after deeds that end one call
abbrev pub next : State → FolderPast → State
next s past = record s { past = past; times = goes_on s.times past }

-- with one file more of a kind
abbrev pub grown : Kind → State → State
grown Warc s = record s { warc = s.warc + 1 }
grown Cdxj s = record s { cdxj = s.cdxj + 1 }

-- with other trust
abbrev pub trusted : Trust → State → State
trusted trust s = record s { trust = trust }

-- A disk that was just made: it has so many files of each kind, hasn't given up, and its first moment has begun.
pub record IsNew (warc cdxj : ℕ) (s : State) : Type 0 where
  pub warc_is : s.warc ≡ warc
  pub cdxj_is : s.cdxj ≡ cdxj
  pub fresh : s.trust ≡ record { gave_up = false; warc = None; cdxj = None; further_warc = Absent; further_cdxj = Absent }
  pub first : moment_of s.times ≡ 0
