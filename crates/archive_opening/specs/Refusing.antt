-- Why files aren't opened by checkpoints, as bytes alone say: what is counted up to a place, and with what it doesn't go on there.
use Rattle.std.specs.Prelude.{◌≡◌, ◌⊎◌, ℕ, ◌+◌, ◌^◌, ◌<◌, ◌≤◌, List, length, ⊤}
use Rattle.capture.specs.Captures.{captures}
use Rattle.capture.specs.declared.book.Book.{Book}
use Rattle.disk_model.specs.Image.{Image, file_of}
use Rattle.disk_model.specs.declared.kind.Kind.TheVariants.{Warc}
use Rattle.volume_scan.specs.Damage.{IsDamagedAt}
use Rattle.volume_scan.specs.Scannings.{LiesIn}
use Rattle.volume_scan.specs.Unread.{unread}
use Rattle.volume_scan.specs.declared.position.Position.{Position}
use Rattle.warc_journal.specs.Extents.{warc_files}
use Rattle.warc_journal.specs.declared.place.Place.{Place}
use Rattle.warc_scan.specs.Answers.{BeginsWithGroup}
use Rattle.warc_scan.specs.declared.group.Group.{Group}
use Rattle.archive_shelf.specs.declared.fault.ReopenFault.{ReopenFault}
use Rattle.archive_shelf.specs.declared.fault.ReopenFault.TheVariants as faults
use Rattle.archive_opening.specs.Counting.{AreCounted, CountsOn, HasCountsOf, HasInfo}
use Rattle.archive_gathering.specs.Refusing.{IsUnfitGroup, IsUnfitVolume}

-- ---- what isn't gathered

-- ---- where files break off

-- Up to the position the files hold the book's volumes, each with as many captures as its groups are or its checkpoint tells.
pub record IsCountedTo (image : Image) (position : Position) (book : Book) : Type 0 where
  pub volumes : position.extent.volumes ≡ length book.volumes
  pub captures_are : position.captures ≡ length (captures book)
  pub namespace : 0 < length book.volumes → position.namespace ≡ book.namespace
  pub lies : LiesIn position (warc_files image)
  pub counts : CountsOn image position book

-- The next file begins with a warcinfo, with which no archive goes on: it has another namespace, or the volume before it holds no capture.
pub record VolumeIsRefused (image : Image) (position : Position) (book : Book) (file place : ℕ) : Type 0 where
  pub file_is : file ≡ position.extent.volumes
  pub place_is : place ≡ 0
  pub namespace : List ℕ
  pub info : HasInfo image namespace file
  pub before : AreCounted image book.namespace book.volumes
  pub cause : IsUnfitVolume book namespace

-- The group of the next capture stands behind what was read. It passes a bound; or it refers to another capture, of which bytes don't tell here whether it
-- was found.
pub record GroupIsRefused (image : Image) (position : Position) (file place : ℕ) : Type 0 where
  pub at : Place
  pub group : Group
  pub file_is : file ≡ at.volume
  pub place_is : place ≡ at.at
  pub last : at.volume + 1 ≡ position.extent.volumes
  pub behind : at.at ≡ position.extent.end
  pub len : at.len ≡ group.len
  pub begins : BeginsWithGroup position.namespace position.captures (unread position (warc_files image)) group
  pub cause : IsUnfitGroup position.captures at group

-- damage is where what is counted doesn't go on
pub record BreaksOffAt (image : Image) (file place : ℕ) : Type 0 where
  pub book : Book
  pub position : Position
  pub counted : IsCountedTo image position book
  pub cause : IsDamagedAt position (warc_files image) file place ⊎ VolumeIsRefused image position book file place ⊎ GroupIsRefused image position file place

-- or all is counted, and the last volume is too long
pub record LastIsTooLong (image : Image) (file place : ℕ) : Type 0 where
  pub book : Book
  pub counts : HasCountsOf image book
  pub file_is : file + 1 ≡ length book.volumes
  pub place_is : place ≡ 0
  pub long : 2 ^ 62 ≤ length (file_of image Warc file)

-- all is counted, in this namespace
pub record CountsOther (image : Image) (other : List ℕ) : Type 0 where
  pub book : Book
  pub counts : HasCountsOf image book
  pub some : 0 < length book.volumes
  pub namespace : book.namespace ≡ other

-- Bytes bear out why the files aren't opened by checkpoints: damage is told where they break off, and another namespace where their volumes have it.
abbrev pub IsBorneOut : Image → ReopenFault → Type 0
IsBorneOut image (faults.Damaged kind file place) = BreaksOffAt image file place ⊎ LastIsTooLong image file place
IsBorneOut image (faults.OtherNamespace other) = CountsOther image other
IsBorneOut image faults.DiskFault = ⊤
IsBorneOut image faults.Memory = ⊤
