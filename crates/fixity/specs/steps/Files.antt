-- The file of the volume that is checked.
use Rattle.std.specs.Prelude.{◌≡◌, ◌<◌, ℕ, List, length}
use Rattle.disk_model.specs.Image.{Image, file_count, file_of}
use Rattle.disk_model.specs.declared.kind.Kind.TheVariants.{Warc}
use Rattle.fixity.specs.Verdicts.{Volume, volume_of}
use Rattle.fixity.specs.declared.due.Due.{Due}

-- its bytes
abbrev pub file_in : Image → Due → List ℕ
file_in image due = file_of image Warc due.volume

-- it is there, and has this length
pub record IsIn (image : Image) (due : Due) : Type 0 where
  pub there : due.volume < file_count image Warc
  pub len : due.len ≡ length (file_in image due)

-- the volume that is due
abbrev pub volume_in : Due → List ℕ → Volume
volume_in due namespace = volume_of due.volume namespace due.first due.count due.last
