-- How an archive's volumes go on from what stood in them: each capture that is stored stands there with just its records, from its store on.
use Rattle.std.specs.Prelude.{◌≡◌, ◌⊎◌, ℕ, ◌-◌, ◌^◌, ◌<◌, ◌≤◌, Bool, true, if◌then◌else◌, List, [], ◌∷◌, ◌++◌, length, Option, ⊤}
use Rattle.capture.specs.Captures.{HasPayload}
use Rattle.capture.specs.declared.book.Book.{Book}
use Rattle.capture.specs.declared.captured.Taken.{Taken}
use Rattle.disk_model.specs.Crash.{Leaves}
use Rattle.disk_model.specs.Image.{Image}
use Rattle.disk_model.specs.declared.disk.Disk.{Ghosts}
use Rattle.warc_journal.specs.Extents.{warc_files}
use Rattle.warc_journal.specs.Journals.{disk_of, texts}
use Rattle.warc_journal.specs.Texts.{Hold, with_more}
use Rattle.warc_text.specs.Records.{info_text}
use Rattle.archive_shelf.specs.Comparing.{RefersByDigest}
use Rattle.archive_shelf.specs.Storing.{as_stored, with_capture, with_volume}
use Rattle.archive_volumes.specs.Grouping.{IsGroupFor}
use Rattle.archive_core.specs.Holdings.{Holdings}
use Rattle.archive_core.specs.Stood.{Lasts, Stood}

-- ---- one more

-- the texts that stood, with the warcinfo of a volume that is begun at this time, if one is
abbrev pub with_info : Stood → Bool → ℕ → List (List ℕ)
with_info was begun born =
    if begun then was.finished ++ info_text was.book.namespace (length was.book.volumes) born ∷ [] else was.finished

-- A capture more: its group alone stood behind the last text, or behind the warcinfo of a volume that was begun for it.
pub record HasCaptureMore (was is : Stood) : Type 0 where
  pub taken : Taken
  pub same : Option ℕ
  pub payload : List ℕ
  pub has : HasPayload taken.cut taken.method taken.head taken.wire payload
  pub group : List ℕ
  pub of : IsGroupFor was.book taken payload same group
  pub begun : Bool
  pub book : is.book ≡ with_capture (if begun then with_volume was.book taken.date else was.book) (as_stored taken same)
  pub texts_are : is.finished ≡ with_more (with_info was begun taken.date) group

-- A volume more: its warcinfo alone stood behind the texts, as it does where the disk refuses the capture for which it was begun.
pub record HasVolumeMore (was is : Stood) : Type 0 where
  pub born : ℕ
  pub book : is.book ≡ with_volume was.book born
  pub texts_are : is.finished ≡ with_info was true born

-- it is the capture, or the volume, that is more
abbrev pub HasMore : Stood → Stood → Type 0
HasMore was is = HasCaptureMore was is ⊎ HasVolumeMore was is

-- A capture that was stored: what it refers to, if to any, has the digest of its payload, where the book has the request of that.
pub record HasStoredMore (was is : Stood) : Type 0 where
  pub more : HasCaptureMore was is
  pub by_digest : RefersByDigest was.book more.taken more.same

abbrev pub GainsMore : Stood → Stood → Type 0
GainsMore was is = HasStoredMore was is ⊎ HasVolumeMore was is

-- an image holds what stood, or that with one capture or volume more
abbrev pub IsNear : Stood → Image → Type 0
IsNear now image = Hold now.finished (warc_files image) ⊎ ((next : Stood) × HasMore now next × Hold next.finished (warc_files image))

-- ---- one after the other, the newest first

-- what stood last
abbrev pub last_stood : Stood → List Stood → Stood
last_stood stood [] = stood
last_stood stood (last ∷ earlier) = last

-- each has one capture that was stored, or one volume, more than the one before it
abbrev pub EachHasMore : Stood → List Stood → Type 0
EachHasMore stood [] = ⊤
EachHasMore stood (last ∷ earlier) =
    ((last_stood stood earlier).moment ≤ last.moment) × GainsMore (last_stood stood earlier) last × EachHasMore stood earlier

-- each lasts from its moment on
abbrev pub EachLasts : {D : Type 0} → Ghosts D → Stood → List Stood → D → Type 0
EachLasts d stood [] disk = Lasts d stood disk
EachLasts d stood (last ∷ earlier) disk = Lasts d last disk × EachLasts d stood earlier disk

-- an image is near one of them
abbrev pub IsNearOne : Stood → List Stood → Image → Type 0
IsNearOne stood [] image = IsNear stood image
IsNearOne stood (last ∷ earlier) image = IsNear last image ⊎ IsNearOne stood earlier image

-- ---- all of them

-- On a disk stands what stood there once, and behind it all by which the archive's book has grown into this one since: each from its moment on. At
-- whatever moment a crash stopped that, it left one of these, or one with a capture or a volume more; and now it leaves the last, or that with one more: the
-- last alone, where the disk met no fault since.
pub record StandsSince {D : Type 0} (d : Ghosts D) (stood : Stood) (book : Book) (disk : D) : Type 0 where
  pub since : List Stood
  pub each : EachHasMore stood since
  pub book_is : (last_stood stood since).book ≡ book
  pub lasts : EachLasts d stood since disk
  pub left : Leaves (d.images_since disk stood.moment) (IsNearOne stood since)
  pub near : Leaves (d.images disk) (IsNear (last_stood stood since))
  pub counted : stood.faults ≤ d.faults disk
  pub just : d.faults disk ≡ stood.faults → stood.faults < 2 ^ 64 - 1
      → Leaves (d.images disk) (λ image. Hold (last_stood stood since).finished (warc_files image))

-- and an archive goes on with all of them
pub record KeepsStored {D : Type 0} (d : Ghosts D) (stood : Stood) (held : Holdings D) : Type 0 where
  pub stands : StandsSince d stood held.book (disk_of held.journal)
  pub texts_are : (last_stood stood stands.since).finished ≡ texts d held.journal
