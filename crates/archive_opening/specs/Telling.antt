-- What opening by checkpoints gives.
use Rattle.std.specs.Prelude.{◌≡◌, ℕ, ◌+◌, ◌^◌, ◌<◌, ◌≤◌, All, Bool, true, false, IsTrue, List, [], length, is_some, slice_get, Contains, IfNone, IfSome, Option, Some, None, ⊤}
use Rattle.capture.specs.Captures.{captures}
use Rattle.capture.specs.declared.book.Book.{Book}
use Rattle.capture.specs.declared.book.Volume.{Volume}
use Rattle.index_entry.specs.OfBook.{AreEntries}
use Rattle.cdxj_line.specs.declared.line.Line.{Line}
use Rattle.checkpoint.specs.Checkpoints.{AreLinesFor, IsCheckpoint, checkpoint_of}
use Rattle.checkpoint.specs.OfVolume.{HasCheckpointsOf}
use Rattle.disk_model.specs.Crash.{Leaves}
use Rattle.disk_model.specs.Image.{Image, file_of}
use Rattle.disk_model.specs.declared.disk.Disk.{Ghosts}
use Rattle.volume_scan.specs.declared.found.Found.{Found}
use Rattle.volume_scan.specs.declared.found.Found.TheVariants as founds
use Rattle.archive_volumes.specs.declared.spot.Spot.{Spot}
use Rattle.volume_scan.specs.Scannings.{captures_of, disk_of, file_count, position_of, texts as texts_read}
use Rattle.volume_scan.specs.declared.position.Stage.TheVariants.{Done, Opened, Skipped}
use Rattle.volume_scan.specs.declared.scanning.Scanning.{Scanning}
use Rattle.warc_journal.specs.Extents.{cdxj_files, warc_files}
use Rattle.warc_journal.specs.Journals.{Rests, disk_of as disk_of_journal}
use Rattle.warc_journal.specs.Texts.{Hold}
use Rattle.warc_text.specs.StandsFor.{IdsDifferIn}
use Rattle.archive_shelf.specs.Openings.{ImageStandsFor, SameBook}
use Rattle.archive_volumes.specs.Held.{book_of}
use Rattle.archive_volumes.specs.Lines.{told_spot}
use Rattle.archive_volumes.specs.Spots.{AreWithin, is_told_form}
use Rattle.archive_gathering.specs.Gathering.{IsGathered, IsIn, IsSteady}
use Rattle.archive_opening.specs.Opening.{IsOutside, IsUsable}
use Rattle.archive_opening.specs.Following.{Follows, HasAll, left}
use Rattle.archive_shelf.specs.declared.fault.ReopenFault.{ReopenFault}
use Rattle.archive_opening.specs.declared.telling.Step.{Step}
use Rattle.archive_opening.specs.declared.telling.Step.TheVariants as steps
use Rattle.archive_gathering.specs.declared.gathered.Gathered.{Gathered}
use Rattle.archive_opening.specs.declared.opening.Opened.{Opened as OpenedVolumes}
use Rattle.archive_gathering.specs.Shapes.{AreFilledBefore, AreNumbered, AreRequested, IsMadeUp}
use Rattle.disk_model.specs.declared.kind.Kind.TheVariants.{Warc}
use Rattle.archive_opening.specs.declared.telling.FileLines.{FileLines}

-- an image stands for this sound book, whose ids differ, and its checkpoints are those of it
pub record IsSettledFor (image : Image) (book : Book) : Type 0 where
  pub stands : ImageStandsFor image book
  pub ids : IdsDifferIn book
  pub checkpoints : HasCheckpointsOf image book

-- its namespace is asked for, or none
abbrev pub IsAskedFor : Option (List ℕ) → Book → Type 0
IsAskedFor asked book = (namespace : List ℕ) → asked ≡ Some namespace → book.namespace ≡ namespace

-- a book that is known is one for which what a read gives is settled, where the disk tells, and whose namespace is asked for, or none
abbrev pub MayBeSettled : {D : Type 0} → Ghosts D → D → Option (List ℕ) → Option Book → Type 0
MayBeSettled d disk asked known = IfSome known (λ book. IsTrue d.tells → IsSettledFor (d.reading disk) book × IsAskedFor asked book)

-- the book that is known of a disk, which has to tell
abbrev pub known_to : Bool → Option Book → Option Book
known_to true known = known
known_to false known = None

-- each volume is read whole: none behind which another file stands has a finished checkpoint
abbrev pub IsReadWhole : Image → Type 0
IsReadWhole image = (k : ℕ) (lines : List Line) → k + 1 < length (warc_files image) → IsCheckpoint k lines (checkpoint_of image k) → ⊥

-- a crash leaves just the checkpoints that a read gives
abbrev pub AreCheckpointsSynced : Image → (Image → Type 0) → Type 0
AreCheckpointsSynced reading images = Leaves images (λ image. cdxj_files image ≡ cdxj_files reading)

-- ---- while it reads

-- the line that told of it is one of its volume's finished checkpoint
pub record IsOfLine (image : Image) (spot : Spot) : Type 0 where
  pub lines : List Line
  pub finished : IsCheckpoint spot.volume lines (checkpoint_of image spot.volume)
  pub line : Line
  pub one : Contains lines line
  pub is : spot ≡ told_spot line

-- each capture was read, or a line of its volume's checkpoint told of it
abbrev pub AreReadOrTold : Image → List Spot → Type 0
AreReadOrTold image spots = All (λ spot. is_told_form spot.form ≡ true → IsOfLine image spot) spots

-- what was gathered so far are this book's first volumes and captures
pub record IsTold {D : Type 0} (d : Ghosts D) (book : Book) (scanning : Scanning D) (g : Gathered) : Type 0 where
  pub tells : IsTrue d.tells
  pub settled : IsSettledFor (d.reading (disk_of scanning)) book
  pub gathered : IsGathered (Some book) g (texts_read d scanning)
  pub behind : (position_of scanning).stage ≡ Skipped → (position_of scanning).extent.volumes < length book.volumes

-- What a scan has read or skipped was gathered.
pub record GoesWith {D : Type 0} (d : Ghosts D) (known : Option Book) (scanning : Scanning D) (g : Gathered) : Type 0 where
  pub volumes : (position_of scanning).extent.volumes ≡ length (book_of g.held).volumes
  pub none : (position_of scanning).extent.volumes ≡ 0 → (position_of scanning).extent.end ≡ 0
  pub count : captures_of scanning ≡ length (captures (book_of g.held))
  pub namespace : 0 < length (book_of g.held).volumes → (position_of scanning).namespace ≡ (book_of g.held).namespace
  pub filled : AreFilledBefore (book_of g.held)
  pub begins : (k : ℕ) (volume : Volume) → k + 1 ≡ length (book_of g.held).volumes → slice_get (book_of g.held).volumes k ≡ Some volume
      → volume.captures ≡ [] → (position_of scanning).extent.end ≤ 512
  pub within : IsTrue d.tells → AreWithin (texts_read d scanning) g.spots.items
  pub lined : IsTrue d.tells → AreReadOrTold (d.reading (disk_of scanning)) g.spots.items
  pub numbered : AreNumbered g
  pub requested : AreRequested g
  pub made : IfNone known (IsMadeUp g)
  pub told : IfSome known (λ book. IsTold d book scanning g)

-- Nothing more stands in the files, where the disk tells.
pub record HasAllOf {D : Type 0} (d : Ghosts D) (known : Option Book) (scanning : Scanning D) (g : Gathered) : Type 0 where
  pub goes : GoesWith d known scanning g
  pub held : IsTrue d.tells → Hold (texts_read d scanning) (warc_files (d.reading (disk_of scanning)))

-- the volume with this number was just begun
pub record OpensAt {D : Type 0} (scanning : Scanning D) (volume : ℕ) : Type 0 where
  pub stage : (position_of scanning).stage ≡ Opened
  pub volume_is : volume + 1 ≡ (position_of scanning).extent.volumes
  pub there : volume < file_count scanning

-- what a step is, by what was found
abbrev pub step_of : Found → Step
step_of (founds.Info volume namespace born) = steps.Begun volume
step_of (founds.Group place read) = steps.More
step_of founds.End = steps.End

-- the number of the volume fits its type
abbrev pub IsSmall : Step → Type 0
IsSmall (steps.Begun volume) = volume < 2 ^ 32
IsSmall steps.More = ⊤
IsSmall steps.End = ⊤

-- what a step says: a volume was begun, there may be more, or all was gathered
abbrev pub StepsOn : {D : Type 0} → Ghosts D → Option Book → Scanning D → Scanning D → Gathered → Step → Type 0
StepsOn d known old new g (steps.Begun volume) = GoesWith d known new g × IsSteady g × (left new < left old) × OpensAt new volume
StepsOn d known old new g steps.More = GoesWith d known new g × IsSteady g × (left new < left old)
StepsOn d known old new g steps.End = HasAllOf d known new g × ((position_of new).stage ≡ Done) × IsSteady g

-- each volume is read whole where the disk tells, and what was gathered follows the scan
pub record ReadsWhole {D : Type 0} (d : Ghosts D) (scanning : Scanning D) (g : Gathered) : Type 0 where
  pub tells : IsTrue d.tells
  pub whole : IsReadWhole (d.reading (disk_of scanning))
  pub follows : Follows d scanning g

-- so it goes on after a step, or all was gathered
abbrev pub ReadsWholeTo : {D : Type 0} → Ghosts D → Scanning D → Gathered → Step → Type 0
ReadsWholeTo d new g (steps.Begun volume) = ReadsWhole d new g
ReadsWholeTo d new g steps.More = ReadsWhole d new g
ReadsWholeTo d new g steps.End = HasAll d new g

abbrev pub ReadsWholeOn : {D : Type 0} → Ghosts D → Scanning D → Gathered → Bool → Type 0
ReadsWholeOn d new g true = ReadsWhole d new g
ReadsWholeOn d new g false = HasAll d new g

-- what one step more says, and the lines of a volume with it: there may be more, or all was gathered
abbrev pub TellsOn : {D : Type 0} → Ghosts D → Option Book → Scanning D → Scanning D → Gathered → Bool → Type 0
TellsOn d known old new g true = GoesWith d known new g × IsSteady g × (left new < left old)
TellsOn d known old new g false = HasAllOf d known new g × ((position_of new).stage ≡ Done) × IsSteady g

-- where a book is known, only the disk's fault or the lack of memory is the cause
abbrev pub IsKnownRefusal : Option Book → ReopenFault → Type 0
IsKnownRefusal known fault = IfSome known (λ _. IsOutside fault)

-- ---- at last

-- An archive can be made of what was opened. Its book is told where it is known: it is that one, and its entries were gathered.
pub record IsOpenedBy {D : Type 0} (d : Ghosts D) (disk : D) (asked : Option (List ℕ)) (known : Option Book) (opened : OpenedVolumes D) : Type 0 where
  pub usable : IsUsable d (is_some known) opened
  pub known_is : IfSome known (λ book. SameBook (book_of opened.gathered.held) book)
  pub entries : IfSome known (λ _. AreEntries (book_of opened.gathered.held) opened.gathered.entries.items)
  -- whatever the disk tells, the entries are in order of their numbers, which are those of captures, and tell what is kept of those
  pub numbered : AreNumbered opened.gathered
  -- and the book has the request of each capture that was read
  pub requested : AreRequested opened.gathered
  -- where the disk tells, each capture was read, or a line of its volume's checkpoint told of it
  pub lined : IsTrue d.tells → AreReadOrTold (d.reading disk) opened.gathered.spots.items
  pub in_namespace : IsIn asked (book_of opened.gathered.held)
  pub rests : IsTrue d.tells → Rests d disk (disk_of_journal opened.journal)
  pub faults : d.faults (disk_of_journal opened.journal) ≡ d.faults disk

-- ---- the lines of a file

-- the lines are those of a volume's checkpoint, and its file is so long, as a read gives them
pub record IsReadOf (image : Image) (told : FileLines) : Type 0 where
  pub len_is : told.len ≡ length (file_of image Warc told.volume)
  pub checkpoint : IsCheckpoint told.volume told.lines.items (checkpoint_of image told.volume)

-- they are those of this volume
abbrev pub FitsVolume : ℕ → FileLines → Type 0
FitsVolume volume told = (told.volume ≡ volume) × AreLinesFor told.volume told.lines.items
