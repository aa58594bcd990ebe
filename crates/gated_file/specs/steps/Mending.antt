-- What the steps of a mending rest on.
use Rattle.std.specs.Prelude.{ℕ, List, drop}
use Rattle.disk_model.specs.Crash.{HasFile, Leaves}
use Rattle.disk_model.specs.Image.{Image}
use Rattle.gated_file.specs.declared.file.GatedFile.{GatedFile}
use Rattle.gated_file.specs.Files.{bytes_of}

-- what stands behind the finished text
abbrev pub rest_of : GatedFile → Image → List ℕ
rest_of gated image = drop gated.end (bytes_of gated image)

-- a crash leaves the file as a read gives it
abbrev pub IsSynced : GatedFile → Image → (Image → Type 0) → Type 0
IsSynced gated reading images = Leaves images (HasFile gated.kind gated.file (bytes_of gated reading))
