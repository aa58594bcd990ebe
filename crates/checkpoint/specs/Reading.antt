-- What reading a checkpoint answers.
use Rattle.std.specs.Prelude.{◌≡◌, ℕ, List}
use Rattle.disk_model.specs.Image.{Image}
use Rattle.cdxj_line.specs.declared.line.Line.{Line}
use Rattle.checkpoint.specs.Checkpoints.{IsCheckpoint, checkpoint_of}

-- the bytes are no finished checkpoint of the volume, with whatever lines
abbrev pub IsNoCheckpoint : ℕ → List ℕ → Type 0
IsNoCheckpoint volume bytes = (lines : List Line) → IsCheckpoint volume lines bytes → ⊥

-- an image has the file for a volume's checkpoint as a read gives it
abbrev pub HasCheckpointOf : Image → ℕ → Image → Type 0
HasCheckpointOf reading volume image = checkpoint_of image volume ≡ checkpoint_of reading volume
