-- How far the texts of volumes reach, and what is known of the files that hold them.
use Rattle.std.specs.Prelude.{◌≡◌, ◌≢◌, ◌<◌, ◌≤◌, ℕ, ◌+◌, ◌-◌, Bool, true, false, if◌then◌else◌, List, [], length, set, slice_index_or, take}
use Rattle.disk_model.specs.Crash.{Leaves}
use Rattle.disk_model.specs.Image.{Image, files_of}
use Rattle.disk_model.specs.declared.kind.Kind.TheVariants.{Warc, Cdxj}
use Rattle.gated_file.specs.declared.file.GatedFile.{GatedFile}
use Rattle.warc_text.specs.StandsFor.{commit_byte}
use Rattle.warc_journal.specs.Texts.{AreSealed, Hold, IsFurtherEmpty, IsLastJust}
use Rattle.warc_journal.specs.declared.extent.Extent.{Extent}
use Rattle.warc_journal.specs.declared.extent.Further.{Further}
use Rattle.warc_journal.specs.declared.extent.Further.TheVariants.{Absent, Empty, Unknown}

-- the files of the volumes, in order
abbrev pub warc_files : Image → List (List ℕ)
warc_files image = files_of image Warc

-- the files of the checkpoints
abbrev pub cdxj_files : Image → List (List ℕ)
cdxj_files image = files_of image Cdxj

-- a crash leaves just the Warc files that a read gives
abbrev pub AreVolumesSynced : Image → (Image → Type 0) → Type 0
AreVolumesSynced reading images = Leaves images (λ image. warc_files image ≡ warc_files reading)

-- the texts of the volumes: their files, the last one up to its end
abbrev pub texts_in : Extent → List (List ℕ) → List (List ℕ)
texts_in extent files =
    set (take extent.volumes files) (extent.volumes - 1) (take extent.end (slice_index_or files (extent.volumes - 1) []))

-- the file of the last volume
abbrev pub last_of : Extent → GatedFile
last_of extent = record { kind = Warc; file = extent.volumes - 1; commit = commit_byte; end = extent.end; is_dirty = extent.is_dirty }

-- the file behind it
abbrev pub further_of : Extent → Bool → GatedFile
further_of extent is_dirty = record { kind = Warc; file = extent.volumes; commit = commit_byte; end = 0; is_dirty = is_dirty }

-- nothing but the texts stands in the files, and that is known
pub record IsClean (extent : Extent) : Type 0 where
  pub last : extent.is_dirty ≡ false
  pub further : extent.further ≢ Unknown

-- how far the moment goes on at most where what may stand in a further file is taken away: the files are counted, and the
-- file is mended
abbrev pub further_mending : Further → ℕ
further_mending Absent = 0
further_mending Empty = 0
further_mending Unknown = 8

-- and where that is done in both files: not at all where they are clean
abbrev pub mending : Extent → ℕ
mending extent = further_mending extent.further + (if extent.is_dirty then 7 else 0)

-- one image has as many Warc files as the other
abbrev pub MakesNoFile : Image → Image → Type 0
MakesNoFile old new = length (warc_files new) ≡ length (warc_files old)

-- these files hold texts that reach so far, with what the extent says behind them
pub record IsFound (extent : Extent) (files : List (List ℕ)) : Type 0 where
  pub none : extent.volumes ≡ 0 → extent.end ≡ 0
  pub enough : extent.volumes ≤ length files
  pub within : (k : ℕ) → k + 1 ≡ extent.volumes → extent.end ≤ length (slice_index_or files k [])
  pub held : Hold (texts_in extent files) files
  pub clean : extent.is_dirty ≡ false → IsLastJust (texts_in extent files) files
  pub absent : extent.further ≡ Absent → length files ≡ extent.volumes
  pub there : extent.further ≡ Empty → length files ≡ extent.volumes + 1
  pub empty : extent.further ≡ Empty → IsFurtherEmpty (texts_in extent files) files

-- The texts reach so far on a disk. A read gives them, and each image has them but for the last one, which may go on in any
-- way where it is dirty, while the further file may hold anything where it is unknown. Where it is dirty and the further file
-- is unknown, each image holds the texts.
pub record Reaches (extent : Extent) (texts : List (List ℕ)) (reading : Image) (images : Image → Type 0) : Type 0 where
  pub none : extent.volumes ≡ 0 → extent.end ≡ 0
  pub enough : extent.volumes ≤ length (warc_files reading)
  pub one_more : length (warc_files reading) ≤ extent.volumes + 1
  pub within : (k : ℕ) → k + 1 ≡ extent.volumes → extent.end ≤ length (slice_index_or (warc_files reading) k [])
  pub sealed : Leaves images (λ image. AreSealed texts (warc_files image))
  pub clean : extent.is_dirty ≡ false → Leaves images (λ image. IsLastJust texts (warc_files image))
  pub known : extent.further ≢ Unknown → Leaves images (λ image. IsFurtherEmpty texts (warc_files image))
  pub absent : extent.further ≡ Absent → length (warc_files reading) ≡ extent.volumes
  pub there : extent.further ≡ Empty → Leaves images (λ image. extent.volumes < length (warc_files image))
  pub held : extent.is_dirty ≡ true → extent.further ≡ Unknown → Leaves images (λ image. Hold texts (warc_files image))
