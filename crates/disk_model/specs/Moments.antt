-- What a run of calls adds to what a crash may leave, at whatever moment a crash stops it.
use Rattle.std.specs.Prelude.{ℕ, ◌≤◌, ◌⊎◌}
use Rattle.disk_model.specs.Image.{Image}

-- What a crash leaves at some moment of a run, or might have left since any moment before the run, it might have left
-- before the run too, or it has P.
pub record AddsOnly {D : Type 0} (moment : D → ℕ) (images_since : D → ℕ → Image → Type 0) (old new : D) (P : Image → Type 0) : Type 0 where
  pub later : moment old ≤ moment new
  pub adds : (t : ℕ) (image : Image) → t ≤ moment old → images_since new t image → images_since old t image ⊎ P image
