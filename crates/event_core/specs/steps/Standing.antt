-- How an archive alone stands in a state of the machine, and in which states an event leaves it.
use Rattle.std.specs.Prelude.{◌≡◌, ℕ, ◌+◌, ◌<◌, ◌≤◌, Bool, IsTrue, List, [], length, get_or, is_some, Option, None, Some, true, ⊤}
use Rattle.capture.specs.declared.book.Book.{Book}
use Rattle.capture.specs.declared.limits.Limits.{Limits}
use Rattle.cdxj_line.specs.declared.line.Line.{Line}
use Rattle.checkpoint.specs.Checkpoints.{IsCheckpoint}
use Rattle.checkpoint.specs.OfVolume.{AreLinesOf}
use Rattle.disk_model.specs.Device.{Device}
use Rattle.disk_model.specs.Image.{Image}
use Rattle.disk_model.specs.contracts.memory_disk.MemoryDiskDisk.TheImpl.{ghosts}
use Rattle.archive_shelf.specs.Openings.{IsState}
use Rattle.archive_shelf.specs.Told.{ShowsItsBook, Told}
use Rattle.archive_shelf.specs.declared.fault.ReopenFault.{ReopenFault}
use Rattle.archive_opening.specs.Opening.{IsOutside}
use Rattle.archive_opening.specs.Telling.{MayBeSettled}
use Rattle.archive_settling.specs.Settling.{HasWithout}
use Rattle.event_core.specs.Events.{Runs, Steps}
use Rattle.event_core.specs.Machine.{State, sealed}
use Rattle.event_core.specs.Running.{AllIdsDiffer, HoldsOne, IsLeftBy}
use Rattle.event_core.specs.declared.event.Event.{Event}
use Rattle.event_core.specs.declared.reply.Reply.{Reply}

-- ---- checkpoints

-- the file with this number, among the files of the checkpoints, is the finished one of that volume
pub record HasFinished (files : List (List ℕ)) (k : ℕ) : Type 0 where
  pub lines : List Line
  pub is : IsCheckpoint k lines (get_or files k [])

-- no finished one is there but of a sealed volume, with the lines of just its captures
abbrev pub AreRight : Book → List (List ℕ) → Type 0
AreRight book files =
    (k : ℕ) (lines : List Line) → IsCheckpoint k lines (get_or files k [])
    → (k + 1 < length book.volumes) × AreLinesOf book k lines

-- How many checkpoints may be finished whatever a crash leaves. Of so many of the first volumes those are that these files have, which
-- are the least. No others are, or else those below a number may be: of volumes that a refused call may have written.
pub record Tally : Type 0 where
  pub files : List (List ℕ)
  pub upto : ℕ
  pub least : ℕ
  pub most : Option ℕ

-- so many may be
abbrev pub MayCount : Option ℕ → ℕ → ℕ → Type 0
MayCount None least n = n ≡ least
MayCount (Some most) least n = (least ≤ n) × (n ≤ most)

-- the checkpoint of this volume may be
abbrev pub MayBeFinished : Option ℕ → List (List ℕ) → ℕ → ℕ → Type 0
MayBeFinished None files upto k = (k < upto) × HasFinished files k
MayBeFinished (Some most) files upto k = k < most

abbrev pub IsBound : Option ℕ → ℕ → ℕ → Type 0
IsBound None upto count = ⊤
IsBound (Some most) upto count = (upto ≤ most) × (most ≤ count)

-- so it is of the files that a crash may leave, where so many volumes are sealed
pub record IsTallied (left : List (List ℕ) → Type 0) (count : ℕ) (tally : Tally) : Type 0 where
  pub missing : ℕ
  pub counted : HasWithout (HasFinished tally.files) tally.upto missing
  pub least_is : tally.least + missing ≡ tally.upto
  pub within : tally.upto ≤ count
  pub bound : IsBound tally.most tally.upto count
  pub sure : (files : List (List ℕ)) → left files → (k : ℕ) → k < tally.upto → HasFinished tally.files k → HasFinished files k
  pub only : (files : List (List ℕ)) → left files → (k : ℕ) → HasFinished files k → MayBeFinished tally.most tally.files tally.upto k

-- ---- states

-- the book, the other one that may be opened in its place, and the checkpoints
pub record Standing : Type 0 where
  pub book : Book
  pub other : Option Book
  pub tally : Tally

-- the state of the machine in which so many checkpoints are finished
abbrev pub state_at : Standing → ℕ → State
state_at s n = record { book = s.book; other = s.other; settled = n }

abbrev pub MayBe : Tally → ℕ → Type 0
MayBe tally n = MayCount tally.most tally.least n

-- the archive has this book, in this namespace, and beside it at most the other one may be opened
pub record Stands (limits : Limits) (namespace : List ℕ) (now : Told) (s : Standing) : Type 0 where
  pub tells : IsTrue now.contents.tells
  pub limits_are : now.contents.limits ≡ limits
  pub book : now.contents.seen ≡ s.book
  pub in_namespace : s.book.namespace ≡ namespace
  pub opens : IsState now.crash s.book s.other
  pub shows : ShowsItsBook true now
  pub ids : AllIdsDiffer namespace
  pub right : (files : List (List ℕ)) → now.crash.checkpoints files → AreRight s.book files
  pub tallied : IsTallied now.crash.checkpoints (sealed s.book) s.tally

-- it stands in some state
pub record IsStanding (limits : Limits) (namespace : List ℕ) (now : Told) : Type 0 where
  pub was : Standing
  pub stands : Stands limits namespace now was

-- What is known of the book on a disk behind a stop: the one that is named is such, and one is named where the archive stood.
pub record Knows (disk : Device) (namespace : List ℕ) (stood : Bool) (known : Option Book) : Type 0 where
  pub may : MayBeSettled ghosts disk (Some namespace) known
  pub named : IsTrue stood → IsTrue (is_some known)

-- An event made the machine's step: however many checkpoints may be finished now, it is a step from so many as might have been before.
pub record Answers (limits : Limits) (namespace : List ℕ) (now : Told) (was : Standing) (event : Event) (reply : Reply) : Type 0 where
  pub is : Standing
  pub stands : Stands limits namespace now is
  pub steps : (n : ℕ) → MayBe is.tally n → (m : ℕ) × MayBe was.tally m × Steps limits (state_at was m) event reply (state_at is n)

-- an event by which an archive that stands in a state goes on to another one
abbrev pub GoesOn : Limits → List ℕ → Told → Told → Event → Reply → Type 0
GoesOn limits namespace old new event reply =
    (was : Standing) → Stands limits namespace old was → Answers limits namespace new was event reply

-- behind an event the archive wasn't opened: not for what the disk holds
pub record IsShut (limits : Limits) (was : Standing) (event : Event) (fault : ReopenFault) (image : Image) : Type 0 where
  pub outside : IsOutside fault
  pub holds : HoldsOne image (IsLeftBy limits (state_at was 0) event)

abbrev pub EndsBy : Limits → List ℕ → Told → Event → ReopenFault → Image → Type 0
EndsBy limits namespace old event fault image =
    (was : Standing) → Stands limits namespace old was → IsShut limits was event fault image

-- events were answered so, and the archive stands where they left it
pub record Follows (limits : Limits) (namespace : List ℕ) (start : State) (events : List Event) (replies : List Reply) (now : Told) : Type 0 where
  pub is : Standing
  pub stands : Stands limits namespace now is
  pub runs : (n : ℕ) → MayBe is.tally n → Runs limits start events replies (state_at is n)
