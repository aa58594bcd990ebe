-- What files with finished texts hold, and what calls on one of them leave.
use Rattle.std.specs.Prelude.{◌≡◌, ◌⊎◌, ◌<◌, ℕ, false, List, ◌++◌, take}
use Rattle.disk_model.specs.Crash.{HasFile, Leaves, OnFile}
use Rattle.disk_model.specs.Image.{Image, file_count, file_of, with_file}
use Rattle.capture.specs.Tails.{HoldsText}
use Rattle.disk_model.specs.declared.kind.Kind.{Kind}
use Rattle.gated_file.specs.declared.file.GatedFile.{GatedFile}

-- the bytes of the file
abbrev pub bytes_of : GatedFile → Image → List ℕ
bytes_of gated image = file_of image gated.kind gated.file

-- the finished text: the file up to its end
abbrev pub text_of : GatedFile → Image → List ℕ
text_of gated image = take gated.end (bytes_of gated image)

-- the bytes below a place stay
abbrev pub KeepsFront : ℕ → List ℕ → List ℕ → Type 0
KeepsFront at old new = take at new ≡ take at old

-- the finished text stays, and so do all other files
abbrev pub KeepsText : GatedFile → Image → Image → Type 0
KeepsText gated = OnFile gated.kind gated.file (KeepsFront gated.end)

-- a crash leaves the file's finished text and nothing behind it
abbrev pub IsEnded : GatedFile → Image → (Image → Type 0) → Type 0
IsEnded gated reading images = Leaves images (HasFile gated.kind gated.file (text_of gated reading))

-- what is known of the file: where it isn't dirty, a crash leaves just its finished text
abbrev pub IsKnown : GatedFile → Image → (Image → Type 0) → Type 0
IsKnown gated reading images = gated.is_dirty ≡ false → IsEnded gated reading images

-- The image is one of those from before, with bytes of this description in a file that it has. Nothing else changed.
pub record Rewrites (kind : Kind) (file : ℕ) (images : Image → Type 0) (Description : List ℕ → Type 0) (image : Image) : Type 0 where
  pub before : Image
  pub was : images before
  pub there : file < file_count before kind
  pub bytes : List ℕ
  pub described : Description bytes
  pub whole : image ≡ with_file before kind file bytes

-- the bytes hold the finished text
abbrev pub HoldsBefore : GatedFile → Image → List ℕ → Type 0
HoldsBefore gated reading = HoldsText gated.commit (text_of gated reading)

-- the bytes are the finished text and one more, with nothing behind it
abbrev pub HoldsAfter : GatedFile → Image → List ℕ → List ℕ → Type 0
HoldsAfter gated reading more bytes = bytes ≡ text_of gated reading ++ more

-- one of the two
abbrev pub HoldsEither : GatedFile → Image → List ℕ → List ℕ → Type 0
HoldsEither gated reading more bytes = HoldsBefore gated reading bytes ⊎ HoldsAfter gated reading more bytes

-- an image from before in which the file holds the finished text
abbrev pub IsFinished : GatedFile → Image → (Image → Type 0) → Image → Type 0
IsFinished gated reading images = Rewrites gated.kind gated.file images (HoldsBefore gated reading)

-- an image from before in which the file is the finished text and one more
abbrev pub IsAdded : GatedFile → Image → (Image → Type 0) → List ℕ → Image → Type 0
IsAdded gated reading images more = Rewrites gated.kind gated.file images (HoldsAfter gated reading more)

-- one of the two
abbrev pub IsEither : GatedFile → Image → (Image → Type 0) → List ℕ → Image → Type 0
IsEither gated reading images more = Rewrites gated.kind gated.file images (HoldsEither gated reading more)
