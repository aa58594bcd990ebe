-- What opening an archive answers, by the files that a read gives.
use Rattle.std.specs.Prelude.{◌≡◌, ◌≢◌, ◌⊎◌, ℕ, ◌+◌, ◌<◌, List, [], ◌∷◌, ◌++◌, length, slice_index_or, Option, Some, None, ⊤, Bool, IsFalse, IsTrue}
use Rattle.capture.specs.Captures.{captures}
use Rattle.capture.specs.declared.book.Book.{Book}
use Rattle.disk_model.specs.declared.kind.Kind.TheVariants.{Warc}
use Rattle.volume_scan.specs.Books.{AreFronts}
use Rattle.volume_scan.specs.Damage.{IsDamagedAt}
use Rattle.volume_scan.specs.declared.position.Position.{Position}
use Rattle.warc_journal.specs.Extents.{texts_in, warc_files}
use Rattle.warc_journal.specs.Texts.{Hold, with_more}
use Rattle.warc_scan.specs.Groups.{IsGroup}
use Rattle.record_opening.specs.Infos.{IsInfo}
use Rattle.warc_scan.specs.declared.group.Group.{Group}
use Rattle.warc_text.specs.Books.{AreVolumeTexts}
use Rattle.warc_text.specs.Sound.{IsSound}
use Rattle.warc_text.specs.StandsFor.{StandsFor}
use Rattle.archive_shelf.specs.declared.fault.ReopenFault.{ReopenFault}
use Rattle.archive_shelf.specs.declared.fault.ReopenFault.TheVariants as faults
use Rattle.archive_gathering.specs.Reading.{IsDeadEnd}
use Rattle.index_entry.specs.OfBook.{AreEntries}
use Rattle.disk_model.specs.Crash.{Leaves}
use Rattle.disk_model.specs.declared.disk.Disk.{Ghosts}
use Rattle.warc_journal.specs.Journals.{IsInStep, Rests, disk_of as disk_of_journal, texts as texts_of}
use Rattle.archive_volumes.specs.Held.{book_of}
use Rattle.archive_volumes.specs.Spots.{AreHeldWhole, ArePlaced, AreSpotsOf, AreWithin}
use Rattle.archive_volumes.specs.Volumes.{IsMeasured}
use Rattle.archive_opening.specs.declared.opening.Opened.{Opened}
use Rattle.archive_gathering.specs.Gathering.{AreAllRead, IsIn, IsSteady}
use Rattle.archive_volumes.specs.Entries.{AreNamed}

-- the files stand for no sound book
abbrev pub StandForNone : List (List ℕ) → Type 0
StandForNone files = (book : Book) → IsSound book → StandsFor files book → ⊥

-- these are all texts of a sound book, and the files begin with them
pub record IsReadFrom (files : List (List ℕ)) (book : Book) (texts : List (List ℕ)) : Type 0 where
  pub sound : IsSound book
  pub are : AreVolumeTexts book texts
  pub fronts : AreFronts texts files

-- behind them stands nothing with which an archive goes on
pub record IsScanDamage (files : List (List ℕ)) (book : Book) (texts : List (List ℕ)) (file place : ℕ) : Type 0 where
  pub position : Position
  pub read : texts_in position.extent files ≡ texts
  pub count : position.captures ≡ length (captures book)
  pub namespace : position.extent.volumes ≢ 0 → position.namespace ≡ book.namespace
  pub damaged : IsDamagedAt position files file place

-- the next file begins with a warcinfo, but no sound book goes on with it: it has another namespace, or the volume before it
-- holds no capture
pub record IsRefusedVolume (files : List (List ℕ)) (texts : List (List ℕ)) (file place : ℕ) : Type 0 where
  pub namespace : List ℕ
  pub born : ℕ
  pub text : List ℕ
  pub file_is : file ≡ length texts
  pub place_is : place ≡ 0
  pub info : IsInfo (length texts) text namespace born (length text)
  pub stands : AreFronts (texts ++ text ∷ []) files
  pub none : IsDeadEnd None (texts ++ text ∷ [])

-- a group of the next number follows, but no sound book goes on with it: it refers to no earlier capture with its payload, or
-- passes a bound
pub record IsRefusedGroup (files : List (List ℕ)) (book : Book) (texts : List (List ℕ)) (file place : ℕ) : Type 0 where
  pub text : List ℕ
  pub group : Group
  pub file_is : file + 1 ≡ length texts
  pub place_is : place ≡ length (slice_index_or texts file [])
  pub is : IsGroup book.namespace (length (captures book)) text group
  pub stands : AreFronts (with_more texts text) files
  pub none : IsDeadEnd None (with_more texts text)

-- Where files are damaged: up to the place they hold a sound book, and what stands there is the first with which none goes on.
pub record IsDamage (files : List (List ℕ)) (file place : ℕ) : Type 0 where
  pub book : Book
  pub texts : List (List ℕ)
  pub read : IsReadFrom files book texts
  pub cause : IsScanDamage files book texts file place
      ⊎ IsRefusedVolume files texts file place
      ⊎ IsRefusedGroup files book texts file place

-- damage is answered exactly where the files stand for no sound book, and where it begins
abbrev pub IsDamageIn : List (List ℕ) → ReopenFault → Type 0
IsDamageIn files (faults.Damaged kind file place) = (kind ≡ Warc) × StandForNone files × IsDamage files file place
IsDamageIn files (faults.OtherNamespace other) = ⊤
IsDamageIn files faults.DiskFault = ⊤
IsDamageIn files faults.Memory = ⊤

-- another namespace than the one that is asked for is answered where the files stand for a book in it
pub record HoldsOther (files : List (List ℕ)) (asked : Option (List ℕ)) (other : List ℕ) : Type 0 where
  pub book : Book
  pub sound : IsSound book
  pub for : StandsFor files book
  pub some : 0 < length book.volumes
  pub namespace : book.namespace ≡ other
  pub differs : (namespace : List ℕ) → asked ≡ Some namespace → other ≢ namespace
  pub asked_for : asked ≢ None

abbrev pub IsOtherIn : List (List ℕ) → Option (List ℕ) → ReopenFault → Type 0
IsOtherIn files asked (faults.Damaged kind file place) = ⊤
IsOtherIn files asked (faults.OtherNamespace other) = HoldsOther files asked other
IsOtherIn files asked faults.DiskFault = ⊤
IsOtherIn files asked faults.Memory = ⊤

-- what reading the volumes is refused by: another namespace isn't looked for there
abbrev pub IsReadRefusal : List (List ℕ) → ReopenFault → Type 0
IsReadRefusal files (faults.Damaged kind file place) = IsDamageIn files (faults.Damaged kind file place)
IsReadRefusal files (faults.OtherNamespace other) = ⊥
IsReadRefusal files faults.DiskFault = ⊤
IsReadRefusal files faults.Memory = ⊤

-- the cause isn't what the disk holds: the disk failed, or there was no memory
abbrev pub IsOutside : ReopenFault → Type 0
IsOutside (faults.Damaged kind file place) = ⊥
IsOutside (faults.OtherNamespace other) = ⊥
IsOutside faults.DiskFault = ⊤
IsOutside faults.Memory = ⊤

-- ---- what is opened

-- An archive can be made of what was opened.
pub record IsUsable {D : Type 0} (d : Ghosts D) (told : Bool) (opened : Opened D) : Type 0 where
  -- whatever the disk tells, what was gathered is of one book
  pub measured : IsMeasured opened.journal (book_of opened.gathered.held)
  pub steady : IsSteady opened.gathered
  pub spots : AreSpotsOf (book_of opened.gathered.held) opened.gathered.spots.items
  -- where the disk tells, each image holds the texts as far as the journal says, and what is read of each capture is within them
  pub in_step : IsTrue d.tells → IsInStep d opened.journal
  pub left : IsTrue d.tells → Leaves (d.images (disk_of_journal opened.journal)) (λ image. Hold (texts_of d opened.journal) (warc_files image))
  pub within : IsTrue d.tells → AreWithin (texts_of d opened.journal) opened.gathered.spots.items
  -- where the book is told, which is only of a disk that tells, it is sound and the texts are those of it
  pub tells : IsTrue told → IsTrue d.tells
  pub sound : IsTrue told → IsSound (book_of opened.gathered.held)
  pub texts_are : IsTrue told → AreVolumeTexts (book_of opened.gathered.held) (texts_of d opened.journal)
  pub placed : IsTrue told → ArePlaced (texts_of d opened.journal) (book_of opened.gathered.held) opened.gathered.spots.items
  -- where it isn't told, a capture that a line alone told of counts as one that keeps its whole wire
  pub made : IsFalse told → AreHeldWhole (book_of opened.gathered.held) opened.gathered.spots.items

-- Volumes were opened, each of which was read: their book is sound and its entries were gathered. The disk holds it, where that tells, and
-- nothing else may be left of it than before.
pub record IsOpened {D : Type 0} (d : Ghosts D) (disk : D) (asked : Option (List ℕ)) (opened : Opened D) : Type 0 where
  pub usable : IsUsable d d.tells opened
  pub sound : IsSound (book_of opened.gathered.held)
  pub entries : AreEntries (book_of opened.gathered.held) opened.gathered.entries.items
  pub named : AreNamed opened.gathered.spots.items opened.gathered.entries.items
  pub all_read : AreAllRead opened.gathered.spots.items
  pub stands : IsTrue d.tells → StandsFor (warc_files (d.reading disk)) (book_of opened.gathered.held)
  pub in_namespace : IsIn asked (book_of opened.gathered.held)
  pub rests : IsTrue d.tells → Rests d disk (disk_of_journal opened.journal)
  pub faults : d.faults (disk_of_journal opened.journal) ≡ d.faults disk
