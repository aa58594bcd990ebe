-- What the calls of a journal leave, at whatever moment a crash stops them.
use Rattle.std.specs.Prelude.{◌≡◌, ◌⊎◌, ℕ, List, OnErr, OnOk, Result}
use Rattle.disk_model.specs.Crash.{Leaves, Within}
use Rattle.disk_model.specs.Image.{Image}
use Rattle.disk_model.specs.Moments.{AddsOnly}
use Rattle.disk_model.specs.declared.disk.Disk.{Ghosts}
use Rattle.warc_journal.specs.Extents.{Reaches, cdxj_files, texts_in, warc_files}
use Rattle.warc_journal.specs.Texts.{AreJust, Hold, HoldEither}
use Rattle.warc_journal.specs.declared.extent.Extent.{Extent}
use Rattle.warc_journal.specs.declared.journal.Journal.{Journal}

-- a journal's disk, and how far its texts reach
abbrev pub disk_of : {D : Type 0} → Journal D → D
disk_of journal = journal.disk

abbrev pub extent_of : {D : Type 0} → Journal D → Extent
extent_of journal = journal.extent

-- how many volumes there are, and where the last one's text ends
abbrev pub volumes : {D : Type 0} → Journal D → ℕ
volumes journal = journal.extent.volumes

abbrev pub last_len : {D : Type 0} → Journal D → ℕ
last_len journal = journal.extent.end

-- the texts of the volumes, as a read gives them
abbrev pub texts : {D : Type 0} → Ghosts D → Journal D → List (List ℕ)
texts d journal = texts_in journal.extent (warc_files (d.reading journal.disk))

-- the journal's texts reach on its disk as far as it says
abbrev pub IsInStep : {D : Type 0} → Ghosts D → Journal D → Type 0
IsInStep d journal = Reaches journal.extent (texts d journal) (d.reading journal.disk) (d.images journal.disk)

-- The image has Warc files of this description. Its Cdxj files are those of an image from before.
pub record IsLeft (images : Image → Type 0) (Description : List (List ℕ) → Type 0) (image : Image) : Type 0 where
  pub before : Image
  pub was : images before
  pub others : cdxj_files image ≡ cdxj_files before
  pub described : Description (warc_files image)

-- A call that changes nothing on a disk, neither what a read gives nor what a crash leaves.
pub record Rests {D : Type 0} (d : Ghosts D) (old new : D) : Type 0 where
  pub read : d.reading new ≡ d.reading old
  pub crash : Within (d.images old) (d.images new)
  pub leaves : AddsOnly d.moment d.images_since old new (λ image. ⊥)

-- A call that changes the texts from those before to those after, or is refused.
pub record Changes {D T E : Type 0} (d : Ghosts D) (old new : Journal D) (after : List (List ℕ)) (result : Result T E) : Type 0 where
  -- at each moment a crash leaves what it might have left before, or the texts before or after
  pub leaves : AddsOnly d.moment d.images_since old.disk new.disk (IsLeft (d.images old.disk) (HoldEither (texts d old) after))
  -- once it is done a read gives the texts after, and a crash leaves these alone
  pub added : OnOk result (texts d new ≡ after)
  pub only : OnOk result (Leaves (d.images new.disk) (IsLeft (d.images old.disk) (AreJust after)))
  -- refused, a read gives the texts before; a crash leaves what it might have left before the call or the texts before, or
  -- else the texts before or after
  pub stays : OnErr result (texts d new ≡ texts d old)
  pub refused : OnErr result
      (Leaves (d.images new.disk) (λ image. d.images old.disk image ⊎ IsLeft (d.images old.disk) (Hold (texts d old)) image)
      ⊎ Leaves (d.images new.disk) (IsLeft (d.images old.disk) (HoldEither (texts d old) after)))
  -- a read gives the same Cdxj files
  pub others : cdxj_files (d.reading new.disk) ≡ cdxj_files (d.reading old.disk)

-- A step that changes no text and makes ready for one.
pub record Prepares {D : Type 0} (d : Ghosts D) (old new : Journal D) : Type 0 where
  pub leaves : AddsOnly d.moment d.images_since old.disk new.disk (IsLeft (d.images old.disk) (Hold (texts d old)))
  pub same : texts d new ≡ texts d old
  pub others : cdxj_files (d.reading new.disk) ≡ cdxj_files (d.reading old.disk)
