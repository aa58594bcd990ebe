-- What opening an archive gives where its book may be known: to somebody who kept the disk. By checkpoints only such a book is told, since a
-- checkpoint may say something else than its volume holds.
use Rattle.std.specs.Prelude.{◌≡◌, ◌⊎◌, Bool, false, Contains, IsTrue, IfSome, List, ℕ, [], slice_get, Option, Some, None, ◌≢◌}
use Rattle.capture.specs.declared.book.Book.{Book}
use Rattle.capture.specs.declared.limits.Limits.{Limits}
use Rattle.capture.specs.Captures.{captures}
use Rattle.capture.specs.declared.captured.Stored.{Stored}
use Rattle.index_entry.specs.Facts.{Facts}
use Rattle.disk_model.specs.declared.disk.Disk.{Ghosts}
use Rattle.warc_journal.specs.Extents.{warc_files}
use Rattle.warc_journal.specs.Journals.{Rests, disk_of}
use Rattle.warc_text.specs.StandsFor.{IdsDifferIn}
use Rattle.archive_shelf.specs.Openings.{ImageStandsFor, SameBook}
use Rattle.archive_shelf.specs.declared.depth.Depth.{Depth}
use Rattle.archive_shelf.specs.declared.depth.Depth.TheVariants as depths
use Rattle.archive_shelf.specs.declared.fault.ReopenFault.{ReopenFault}
use Rattle.archive_core.specs.Holdings.{Holdings, contents_of}
use Rattle.archive_opening.specs.Counting.{HasCountsOf}
use Rattle.archive_opening.specs.Opening.{IsDamageIn, IsOtherIn, IsOutside}
use Rattle.archive_gathering.specs.Refusing.{CountsFault, IsCause}
use Rattle.archive_gathering.specs.Gathering.{IsIn}
use Rattle.archive_opening.specs.Refusing.{IsBorneOut}
use Rattle.archive_opening.specs.Telling.{AreCheckpointsSynced, AreReadOrTold, IsAskedFor, IsReadWhole}
use Rattle.checkpoint.specs.OfVolume.{HasCheckpointsOf}
use Rattle.archive_reopening.specs.Reopening.{IsNotOpened, IsReopened}
use Rattle.archive_volumes.specs.Spots.{is_told_form}
use Rattle.archive_volumes.specs.Volumes.{IsQuiet}
use Rattle.archive_volumes.specs.declared.spot.Spot.{Spot}

-- which archive is to be opened: that on this disk, as deep as that, in the namespace that is asked for, if one is; and which book is known of it, if one is
pub record Opening (D : Type 0) : Type 0 where
  pub disk : D
  pub depth : Depth
  pub asked : Option (List ℕ)
  pub known : Option Book

abbrev pub opening_of : {D : Type 0} → D → Depth → Option (List ℕ) → Option Book → Opening D
opening_of disk depth asked known = record { disk = disk; depth = depth; asked = asked; known = known }

-- it is to be opened by its checkpoints
abbrev pub by_checkpoints : {D : Type 0} → D → Option (List ℕ) → Option Book → Opening D
by_checkpoints disk asked known = record { disk = disk; depth = depths.Checkpoints; asked = asked; known = known }

-- what a read gives stands for this sound book, whose ids differ, and whose namespace is asked for, or none is
pub record IsKnown {D : Type 0} (d : Ghosts D) (disk : D) (asked : Option (List ℕ)) (book : Book) : Type 0 where
  pub stands : ImageStandsFor (d.reading disk) book
  pub ids : IdsDifferIn book
  pub asked_for : IsAskedFor asked book

-- a book that is known is so where the disk tells
abbrev pub MayBeKnown : {D : Type 0} → Ghosts D → D → Option (List ℕ) → Option Book → Type 0
MayBeKnown d disk asked known = IfSome known (λ book. IsTrue d.tells → IsKnown d disk asked book)

-- where the disk tells, the finished checkpoints that a read gives are those of the book that is known
abbrev pub HasCheckpointsOfKnown : {D : Type 0} → Ghosts D → D → Option Book → Type 0
HasCheckpointsOfKnown d disk known = IfSome known (λ book. IsTrue d.tells → HasCheckpointsOf (d.reading disk) book)

-- whether the book of an archive is told behind an opening: where the disk tells, and by checkpoints only one that was known
abbrev pub told_at : Depth → Bool → Option Book → Bool
told_at depths.Whole tells known = tells
told_at depths.Checkpoints tells None = false
told_at depths.Checkpoints tells (Some book) = tells

-- What bytes alone say of an archive that was opened by checkpoints. Whatever the disk tells, its book has the request of each capture that was read.
-- Where the disk tells, a line of its volume's finished checkpoint told of each other one; its volumes are those that stand there, each with as many
-- captures as its groups are or its checkpoint tells; and all files of checkpoints are synced, so a crash leaves those that a read gives.
pub record IsLined {D : Type 0} (d : Ghosts D) (disk : D) (held : Holdings D) : Type 0 where
  pub requested : (number : ℕ) (spot : Spot) → slice_get held.spots number ≡ Some spot → is_told_form spot.form ≡ false
      → (stored : Stored) × (slice_get (captures held.book) number ≡ Some stored) × (stored.request ≢ [])
  pub read : IsTrue d.tells → AreReadOrTold (d.reading disk) held.spots
  pub counts : IsTrue d.tells → HasCountsOf (d.reading disk) held.book
  pub synced : IsTrue d.tells → AreCheckpointsSynced (d.reading disk) (d.images (disk_of held.journal))

-- An archive as it is opened. Where its book is told it is the one that is known, and all is as where each volume was read whole.
pub record IsReopenedKnown {D : Type 0} (d : Ghosts D) (opening : Opening D) (limits : Limits) (held : Holdings D) : Type 0 where
  pub told_is : held.told ≡ told_at opening.depth d.tells opening.known
  pub whole : IsTrue held.told → IsReopened d opening.disk opening.asked limits held
  pub known_is : IsTrue held.told → IfSome opening.known (λ book. SameBook held.book book)
  -- where the disk tells, and a read gives no finished checkpoint of a volume behind which another file stands, each volume was read: but that it
  -- isn't told, all is as where each was read whole
  pub unsettled : IsTrue d.tells → IsReadWhole (d.reading opening.disk) → IsReopened d opening.disk opening.asked limits (record held { told = d.tells })
  -- whatever is told, each entry that is shown tells the target and the date of the capture with its number
  pub named : (entry : Facts) → Contains (contents_of held).shown entry
      → (stored : Stored) × (slice_get (captures held.book) entry.number ≡ Some stored) × (entry.uri ≡ stored.uri) × (entry.date ≡ stored.date)
  -- it has the namespace that is asked for, no capture of its own yet, and the limits that are given
  pub in_namespace : IsIn opening.asked held.book
  pub mine : (contents_of held).mine ≡ []
  pub limits_are : held.limits ≡ limits
  -- nothing was written: a read gives what it gave, and nothing more may be opened
  pub rests : IsTrue d.tells → Rests d opening.disk (disk_of held.journal)
  pub quiet : IsQuiet d opening.disk (disk_of held.journal)
  pub faults : d.faults (disk_of held.journal) ≡ d.faults opening.disk
  pub lined : opening.depth ≡ depths.Checkpoints → IsLined d opening.disk held

-- Why an archive isn't opened, and the disk as it is given back: nothing was written. One whose book is known isn't refused for what it holds;
-- where each volume was read whole, it is refused for what is there.
pub record IsNotOpenedKnown {D : Type 0} (d : Ghosts D) (disk : D) (asked : Option (List ℕ)) (known : Option Book) (refused : ReopenFault × D) : Type 0 where
  pub cause : IsCause asked refused.0
  pub complete : IfSome known (λ book. IsTrue d.tells → IsOutside refused.0)
  pub unsettled : IsTrue d.tells → IsReadWhole (d.reading disk) → IsNotOpened d disk asked refused
  -- where the disk tells, whatever is known and whichever checkpoints are used, damage and another namespace are told where they are: for what is
  -- there with each volume read whole, or as bytes bear it out where checkpoints are used
  pub borne_out : IsTrue d.tells
      → (IsDamageIn (warc_files (d.reading disk)) refused.0 × IsOtherIn (warc_files (d.reading disk)) asked refused.0) ⊎ IsBorneOut (d.reading disk) refused.0
  pub rests : IsTrue d.tells → Rests d disk refused.1
  pub quiet : IsQuiet d disk refused.1
  pub faults : CountsFault (d.faults disk) (d.faults refused.1) refused.0

-- ---- where nothing is known

-- an archive that is opened as deep as that: by checkpoints nothing is told of its book
abbrev pub IsReopenedAt : {D : Type 0} → Depth → Ghosts D → D → Option (List ℕ) → Limits → Holdings D → Type 0
IsReopenedAt depths.Whole d disk asked limits held = IsReopened d disk asked limits held
IsReopenedAt depths.Checkpoints d disk asked limits held = IsReopenedKnown d (by_checkpoints disk asked None) limits held

-- why it isn't opened as deep as that
abbrev pub IsNotOpenedAt : {D : Type 0} → Depth → Ghosts D → D → Option (List ℕ) → ReopenFault × D → Type 0
IsNotOpenedAt depths.Whole d disk asked refused = IsNotOpened d disk asked refused
IsNotOpenedAt depths.Checkpoints d disk asked refused = IsNotOpenedKnown d disk asked None refused
