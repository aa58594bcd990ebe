-- What a run of events answers, and what it leaves on the disk.
use Rattle.std.specs.Prelude.{◌≡◌, ◌⊎◌, ℕ, ◌-◌, ◌^◌, ◌<◌, ◌≤◌, List, [], ◌∷◌, length, take, drop, IfSome, Option, None, Some}
use Rattle.capture.specs.Captures.{captures}
use Rattle.capture.specs.declared.book.Book.{Book}
use Rattle.capture.specs.declared.limits.Limits.{Limits}
use Rattle.disk_model.specs.Device.{Device, new_device, reading_of}
use Rattle.disk_model.specs.Image.{Image}
use Rattle.warc_text.specs.Groups.{IdsDiffer}
use Rattle.warc_text.specs.Ids.{IsUuid}
use Rattle.archive_shelf.specs.Openings.{ImageStandsFor}
use Rattle.archive_shelf.specs.Storing.{empty_book}
use Rattle.archive_shelf.specs.declared.fault.ReopenFault.{ReopenFault}
use Rattle.archive_settling.specs.Finished.{HasCheckpoint}
use Rattle.archive_opening.specs.Opening.{IsOutside}
use Rattle.checkpoint.specs.OfVolume.{HasCheckpointsOf}
use Rattle.archive_settling.specs.Settling.{HasWithout}
use Rattle.event_core.specs.Acknowledged.{StandFrom, acknowledged}
use Rattle.event_core.specs.Events.{Runs}
use Rattle.event_core.specs.Faults.{reopen_faults}
use Rattle.event_core.specs.Machine.{IsEither, IsLeftWithin, State, sealed}
use Rattle.event_core.specs.declared.event.Event.{Event}
use Rattle.event_core.specs.declared.event.Event.TheVariants as events
use Rattle.event_core.specs.declared.reply.Reply.{Reply}
use Rattle.event_core.specs.declared.run.Ran.{Ran}
use Rattle.event_core.specs.declared.run.RanEnd.{RanEnd}
use Rattle.event_core.specs.declared.run.RanEnd.TheVariants as ends

-- the ids of all numbers that a capture may have differ
abbrev pub AllIdsDiffer : List ℕ → Type 0
AllIdsDiffer namespace = IdsDiffer namespace (2 ^ 32)

-- The state in which the archive of a disk begins: with the book for which a read of its files stands, and no other one. Each finished
-- checkpoint is that of a sealed volume, with the lines of just its captures, and so many are finished.
pub record Starts (disk : Device) (namespace : List ℕ) (start : State) : Type 0 where
  pub stands : ImageStandsFor (reading_of disk) start.book
  pub in_namespace : start.book.namespace ≡ namespace
  pub alone : start.other ≡ None
  pub right : HasCheckpointsOf (reading_of disk) start.book
  pub settled : start.settled ≤ sealed start.book
  pub missing : HasWithout (λ k. HasCheckpoint start.book k (reading_of disk)) (sealed start.book) (sealed start.book - start.settled)

-- a state that may be named of a disk: the run begins in it, and the ids of captures differ
abbrev pub MayStart : Device → List ℕ → Option State → Type 0
MayStart disk namespace start = IfSome start (λ s. Starts disk namespace s × AllIdsDiffer namespace)

-- the book with which it begins, where the state is named
abbrev pub first_book : Option State → Option Book
first_book None = None
first_book (Some s) = Some s.book

-- the files of the volumes stand for an allowed book
pub record HoldsOne (image : Image) (Allowed : Book → Type 0) : Type 0 where
  pub book : Book
  pub stands : ImageStandsFor image book
  pub allowed : Allowed book

-- these events were answered so, and the disk holds the book that they left, or the one that might be opened in its place
pub record RunSo (limits : Limits) (start : State) (events : List Event) (replies : List Reply) (image : Image) : Type 0 where
  pub is : State
  pub runs : Runs limits start events replies is
  pub holds : HoldsOne image (IsEither is)

-- what an event may have left where the archive wasn't opened behind it: only a stop opens it
abbrev pub IsLeftBy : Limits → State → Event → Book → Type 0
IsLeftBy limits was (events.Stop choice) book = IsEither was book
IsLeftBy limits was (events.StopWithin taken calls choice) book = IsLeftWithin limits was taken book
IsLeftBy limits was (events.Store taken) book = ⊥
IsLeftBy limits was (events.Roll now) book = ⊥
IsLeftBy limits was (events.Bring number) book = ⊥
IsLeftBy limits was (events.ByDate key time) book = ⊥
IsLeftBy limits was (events.Map key) book = ⊥
IsLeftBy limits was events.Settle book = ⊥

-- what the next event may have
abbrev pub IsLeftByNext : Limits → State → List Event → Book → Type 0
IsLeftByNext limits was [] book = ⊥
IsLeftByNext limits was (event ∷ later) book = IsLeftBy limits was event book

-- The first of the events were answered so, and behind the next one, a stop, the archive wasn't opened.
pub record RunPart (limits : Limits) (start : State) (events : List Event) (replies : List Reply) (image : Image) : Type 0 where
  pub is : State
  pub runs : Runs limits start (take (length replies) events) replies is
  pub holds : HoldsOne image (IsLeftByNext limits is (drop (length replies) events))

-- The archive wasn't opened, at first or behind a stop: not for what the disk holds.
pub record IsUnopened (limits : Limits) (start : State) (events : List Event) (replies : List Reply) (fault : ReopenFault) (image : Image) : Type 0 where
  pub outside : IsOutside fault
  pub ran : ((replies ≡ []) × HoldsOne image (IsEither start)) ⊎ RunPart limits start events replies image

-- all events were answered, or the first of them
abbrev pub RunsTo : Limits → State → List Event → List Reply → RanEnd → Image → Type 0
RunsTo limits start events replies ends.All image = RunSo limits start events replies image
RunsTo limits start events replies (ends.NotOpened fault) image = IsUnopened limits start events replies fault image
RunsTo limits start events replies ends.Memory image =
    (length replies < length events) × RunSo limits start (take (length replies) events) replies image

-- a run from this state
abbrev pub IsRun : Limits → State → List Event → Ran → Type 0
IsRun limits start events ran = RunsTo limits start events ran.replies ran.end (reading_of ran.disk)

-- whatever the disk held: each event has its reply, or the first ones have
abbrev pub HasReplies : List Event → List Reply → RanEnd → Type 0
HasReplies events replies ends.All = length replies ≡ length events
HasReplies events replies (ends.NotOpened fault) = length replies ≤ length events
HasReplies events replies ends.Memory = length replies < length events

-- one where the run ended because the disk failed, else none
abbrev pub end_faults : RanEnd → ℕ
end_faults ends.All = 0
end_faults (ends.NotOpened fault) = reopen_faults fault
end_faults ends.Memory = 0

-- a disk without files starts without volumes
abbrev pub NewDisksStart : Type 0
NewDisksStart =
    (fails namespace : List ℕ) → IsUuid namespace
    → Starts (new_device fails) namespace (record { book = empty_book namespace; other = None; settled = 0 })

-- However a run ends, the files that it leaves stand for a book that has each capture which a reply acknowledged, under its number and in
-- order.
abbrev pub DisksHoldWhatIsAcknowledged : Type 0
DisksHoldWhatIsAcknowledged =
    (limits : Limits) (start : State) (events : List Event) (ran : Ran) → IsRun limits start events ran
    → HoldsOne (reading_of ran.disk) (λ book. StandFrom 0 (captures book) (acknowledged events ran.replies))
