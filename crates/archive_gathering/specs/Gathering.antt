-- What is gathered of the volumes that were read: their book, what is kept of its captures, and their entries.
use Rattle.std.specs.Prelude.{◌≡◌, ℕ, ◌+◌, ◌-◌, ◌^◌, ◌<◌, Bool, true, false, All, List, [], ◌∷◌, ◌++◌, length, slice_get, slice_index_or, option_to_list, IfNone, IfSome, Option, Some, None, ⊤}
use Rattle.capture.specs.Captures.{KeepsPayload, captures}
use Rattle.capture.specs.declared.book.Book.{Book}
use Rattle.capture.specs.declared.captured.Stored.{Stored}
use Rattle.index_entry.specs.Facts.{Facts}
use Rattle.index_entry.specs.OfBook.{AreEntries}
use Rattle.disk_model.specs.declared.kind.Kind.TheVariants.{Warc}
use Rattle.time_text.specs.Texts.{InRange}
use Rattle.volume_scan.specs.declared.found.Found.{Found}
use Rattle.volume_scan.specs.declared.found.Found.TheVariants.{Info, Group, End}
use Rattle.warc_journal.specs.Texts.{with_more}
use Rattle.warc_journal.specs.declared.place.Place.{Place}
use Rattle.record_opening.specs.Infos.{IsInfo}
use Rattle.warc_scan.specs.declared.group.Group.{Group as GroupFound}
use Rattle.warc_text.specs.Ids.{IsUuid}
use Rattle.warc_text.specs.Sound.{IsSound}
use Rattle.volume_scan.specs.Books.{AreFronts}
use Rattle.warc_text.specs.StandsFor.{IdsDifferIn, StandsFor}
use Rattle.archive_shelf.specs.Storing.{with_capture, with_volume}
use Rattle.archive_shelf.specs.declared.fault.ReopenFault.{ReopenFault}
use Rattle.archive_shelf.specs.declared.fault.ReopenFault.TheVariants as faults
use Rattle.archive_volumes.specs.Held.{book_of}
use Rattle.archive_gathering.specs.Noting.{IsGroupAt, IsSomeGroup}
use Rattle.archive_gathering.specs.Reading.{IsDeadEnd, IsRead}
use Rattle.archive_volumes.specs.Spots.{ArePlaced, AreSpotsOf, is_told_form, spot_of, whole_from}
use Rattle.archive_gathering.specs.declared.gathered.Gathered.{Gathered}
use Rattle.archive_gathering.specs.declared.noting.Noted.{Noted}
use Rattle.archive_volumes.specs.declared.spot.Spot.{Spot}
use Rattle.uuid.specs.Parts.{zero_bytes}

-- its group was read: not a line alone told of it
abbrev pub GroupWasRead : Spot → Type 0
GroupWasRead spot = is_told_form spot.form ≡ false

-- the lengths of the payloads, of the captures that keep their whole wire and were read
pub record AreLengths (book : Book) (spots : List Spot) (lengths : List ℕ) : Type 0 where
  pub each : (number : ℕ) (stored : Stored) (wire payload : List ℕ) → KeepsPayload book number stored wire payload
      → (spot : Spot) → slice_get spots number ≡ Some spot → GroupWasRead spot → slice_index_or lengths number 0 ≡ length payload
  pub small : (number : ℕ) → number < length lengths → slice_index_or lengths number 0 < 2 ^ 64

-- whatever was read, the parts are in step
pub record IsInStepWith (book : Book) (spots : List Spot) (kept : List (List ℕ × ℕ)) (lengths : List ℕ) : Type 0 where
  pub count : length spots ≡ length (captures book)
  pub lengths_too : length lengths ≡ length spots
  pub few : length spots < 2 ^ 32 - 1
  pub table_is : kept ≡ whole_from 0 spots

-- each capture's group was read
abbrev pub AreAllRead : List Spot → Type 0
AreAllRead spots = All GroupWasRead spots

-- they tell of the book whose texts these are; where none is known, each capture was read
pub record TellsOf (known : Option Book) (book : Book) (texts : List (List ℕ)) (spots : List Spot) (lengths : List ℕ) (entries : List Facts) : Type 0 where
  pub read : IsRead known book texts
  pub spots_are : AreSpotsOf book spots
  pub placed : ArePlaced texts book spots
  pub all_read : IfNone known (AreAllRead spots)
  pub lengths_are : AreLengths book spots lengths
  pub entries_are : AreEntries book entries

-- files stand for this book, whose ids differ, and begin with the texts
pub record StandsBehind (book : Book) (texts : List (List ℕ)) : Type 0 where
  pub files : List (List ℕ)
  pub fronts : AreFronts texts files
  pub sound : IsSound book
  pub stands : StandsFor files book
  pub ids : IdsDifferIn book

-- where a book is known, files that begin with the texts stand for it
abbrev pub MayStand : Option Book → List (List ℕ) → Type 0
MayStand known texts = IfSome known (λ book. StandsBehind book texts)

abbrev pub IsSteady : Gathered → Type 0
IsSteady g = IsInStepWith (book_of g.held) g.spots.items g.table.kept g.lengths.items

abbrev pub IsGathered : Option Book → Gathered → List (List ℕ) → Type 0
IsGathered known g texts = TellsOf known (book_of g.held) texts g.spots.items g.lengths.items g.entries.items

-- the book has a volume more, and all else stayed
pub record HasVolumeMore (was is : Gathered) (born : ℕ) : Type 0 where
  pub book : book_of is.held ≡ with_volume (book_of was.held) born
  pub spots : is.spots.items ≡ was.spots.items
  pub lengths : is.lengths.items ≡ was.lengths.items
  pub entries : is.entries.items ≡ was.entries.items

-- what was noted of a capture was added
pub record HasAdded (was is : Gathered) (noted : Noted) : Type 0 where
  pub book : book_of is.held ≡ with_capture (book_of was.held) noted.stored
  pub spots : is.spots.items ≡ was.spots.items ++ spot_of noted.stored noted.digest noted.volume noted.at noted.head_at ∷ []
  pub lengths : is.lengths.items ≡ was.lengths.items ++ noted.length ∷ []
  pub entries : is.entries.items ≡ was.entries.items ++ option_to_list noted.entry

-- a volume with this text was begun
pub record HasBegun (known : Option Book) (was is : Gathered) (texts : List (List ℕ)) (text namespace : List ℕ) : Type 0 where
  pub gathered : IsGathered known is (texts ++ text ∷ [])
  pub namespace_is : (book_of is.held).namespace ≡ namespace
  pub count : length (captures (book_of is.held)) ≡ length (captures (book_of was.held))

-- a group with this text was taken
pub record HasTaken (known : Option Book) (was is : Gathered) (texts : List (List ℕ)) (text : List ℕ) : Type 0 where
  pub gathered : IsGathered known is (with_more texts text)
  pub namespace_is : (book_of is.held).namespace ≡ (book_of was.held).namespace
  pub count : length (captures (book_of is.held)) ≡ length (captures (book_of was.held)) + 1

-- what was found fits what was gathered, as far as no text tells
pub record FitsGroup (g : Gathered) (place : Place) (group : GroupFound) : Type 0 where
  pub some : IsSomeGroup group
  pub len : place.len ≡ group.len
  pub number : group.number ≡ length (captures (book_of g.held))
  pub volume : 0 < length (book_of g.held).volumes

abbrev pub FitsFound : Gathered → Found → Type 0
FitsFound g (Info volume namespace born) = IsUuid namespace × InRange born
FitsFound g (Group place read) = FitsGroup g place read.group
FitsFound g End = ⊤

-- what was found is gathered, if anything was
abbrev pub Gathers : Option Book → Gathered → Gathered → List (List ℕ) → Found → Bool → Type 0
Gathers known was is texts (Info volume namespace born) more = (more ≡ true)
    × ((text : List ℕ) → volume ≡ length texts → IsInfo volume text namespace born (length text) → HasBegun known was is texts text namespace)
Gathers known was is texts (Group place read) more = (more ≡ true)
    × ((text : List ℕ) → IsGroupAt (book_of was.held) texts text place read.group → MayStand known (with_more texts text) → HasTaken known was is texts text)
Gathers known was is texts End more = (more ≡ false) × (is ≡ was)

-- no sound book that may be meant goes on with what was found
abbrev pub IsRefusedAt : Option Book → Gathered → List (List ℕ) → Found → ℕ → ℕ → Type 0
IsRefusedAt known was texts (Info volume namespace born) file place = (file ≡ volume) × (place ≡ 0)
    × ((text : List ℕ) → volume ≡ length texts → IsInfo volume text namespace born (length text) → IsDeadEnd known (texts ++ text ∷ []))
IsRefusedAt known was texts (Group at read) file place = (file ≡ at.volume) × (place ≡ at.at)
    × ((text : List ℕ) → IsGroupAt (book_of was.held) texts text at read.group → IsDeadEnd known (with_more texts text))
IsRefusedAt known was texts End file place = ⊥

abbrev pub IsRefused : Option Book → Gathered → List (List ℕ) → Found → ReopenFault → Type 0
IsRefused known was texts found (faults.Damaged kind file place) = (kind ≡ Warc) × IsRefusedAt known was texts found file place
IsRefused known was texts found (faults.OtherNamespace other) = ⊥
IsRefused known was texts found faults.DiskFault = ⊥
IsRefused known was texts found faults.Memory = ⊤

-- the book has the namespace that is asked for; where none is, one without volumes has the UUID of zeros
abbrev pub IsIn : Option (List ℕ) → Book → Type 0
IsIn None book = book.volumes ≡ [] → book.namespace ≡ zero_bytes
IsIn (Some namespace) book = book.namespace ≡ namespace
