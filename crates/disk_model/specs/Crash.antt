-- What a crash may leave, by the calls between two syncs.
use Rattle.std.specs.Prelude.{◌≡◌, ◌⊎◌, ◌<◌, ◌≤◌, ℕ, ◌+◌, min, max, List, length, take, drop}
use Rattle.disk_model.specs.Image.{Image, file_count, file_of, with_file, with_new}
use Rattle.disk_model.specs.declared.kind.Kind.{Kind}

-- After a write of n bytes at an offset that a crash cut short: any length between, any bytes in the written
-- range and past the old end, and the old bytes elsewhere.
pub record Torn (at n : ℕ) (old new : List ℕ) : Type 0 where
  pub no_shorter : length old ≤ length new
  pub no_longer : length new ≤ max (length old) (at + n)
  pub before : take at (take (length old) new) ≡ take at old
  pub after : drop (at + n) new ≡ drop (at + n) old

-- After a cut to a length that a crash cut short: any length between, and the old bytes below both lengths.
pub record Cut (n : ℕ) (old new : List ℕ) : Type 0 where
  pub no_shorter : min (length old) n ≤ length new
  pub no_longer : length new ≤ max (length old) n
  pub same : take (length old) new ≡ take (length new) old

-- A step on one file: the image with other bytes in that file, and nothing else changed.
pub record OnFile (kind : Kind) (file : ℕ) (Step : List ℕ → List ℕ → Type 0) (old new : Image) : Type 0 where
  pub bytes : List ℕ
  pub step : Step (file_of old kind file) bytes
  pub whole : new ≡ with_file old kind file bytes

-- A file of that number was made, empty, or nothing was done.
abbrev pub MayCreate : Kind → ℕ → Image → Image → Type 0
MayCreate kind number old new = (new ≡ old) ⊎ ((file_count old kind ≡ number) × (new ≡ with_new old kind))

-- The image has the file, with these bytes.
pub record HasFile (kind : Kind) (file : ℕ) (bytes : List ℕ) (image : Image) : Type 0 where
  pub there : file < file_count image kind
  pub same : file_of image kind file ≡ bytes

-- Each image that a crash may leave now is one that it might have left before.
abbrev pub Within : (Image → Type 0) → (Image → Type 0) → Type 0
Within old new = (image : Image) → new image → old image

-- an image that a step makes of one of these
abbrev pub Stepped : (Image → Image → Type 0) → (Image → Type 0) → Image → Type 0
Stepped Step old image = (before : Image) × old before × Step before image

-- Each image that a crash may leave now is one that it might have left before, after a step.
abbrev pub Follows : (Image → Image → Type 0) → (Image → Type 0) → (Image → Type 0) → Type 0
Follows Step old new = (image : Image) → new image → Stepped Step old image

-- Each image that a crash may leave has P.
abbrev pub Leaves : (Image → Type 0) → (Image → Type 0) → Type 0
Leaves images P = (image : Image) → images image → P image

-- Time goes on, by one at most: a crash since t might have left what it might have left before the call, or one of these
-- images.
pub record Elapses (before now : ℕ) (past since : ℕ → Image → Type 0) (images : Image → Type 0) : Type 0 where
  pub later : before ≤ now
  pub by_one : now ≤ before + 1
  pub nothing_else : (t : ℕ) (image : Image) → t ≤ before → since t image → past t image ⊎ images image
  pub keeps : (t : ℕ) (image : Image) → t ≤ before → past t image → since t image
