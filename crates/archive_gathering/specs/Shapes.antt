-- What is gathered whatever is known: how a volume or a capture more changes it.
use Rattle.std.specs.Prelude.{ℕ, ◌≡◌, ◌≢◌, ◌+◌, ◌^◌, ◌<◌, ◌≤◌, Bool, true, false, List, [], ◌∷◌, ◌++◌, length, slice_get, Contains, Option, Some, None}
use Rattle.std.specs.List.Sorted.{IsStrictlySortedBy}
use Rattle.capture.specs.Captures.{captures}
use Rattle.capture.specs.declared.book.Book.{Book}
use Rattle.capture.specs.declared.book.Volume.{Volume}
use Rattle.index_entry.specs.Facts.{Facts}
use Rattle.index_entry.specs.OfBook.{by_number}
use Rattle.volume_scan.specs.declared.found.Found.{Found}
use Rattle.volume_scan.specs.declared.found.Found.TheVariants as founds
use Rattle.warc_journal.specs.declared.place.Place.{Place}
use Rattle.warc_scan.specs.declared.group.Revisited.{Revisited}
use Rattle.archive_shelf.specs.Comparing.{HasRequest}
use Rattle.archive_volumes.specs.declared.spot.Spot.{Spot}
use Rattle.archive_volumes.specs.Held.{book_of}
use Rattle.archive_volumes.specs.Spots.{AreHeldWhole, AreSpotsOf, is_told_form}
use Rattle.archive_volumes.specs.Entries.{AreNamed}
use Rattle.archive_gathering.specs.declared.gathered.Gathered.{Gathered}

-- each volume but the last holds a capture
abbrev pub AreFilledBefore : Book → Type 0
AreFilledBefore book = (k : ℕ) (volume : Volume) → slice_get book.volumes k ≡ Some volume → k + 1 < length book.volumes → 0 < length volume.captures

-- the volumes but the last
abbrev pub sealed_in : List Volume → List Volume
sealed_in [] = []
sealed_in (volume ∷ []) = []
sealed_in (volume ∷ next ∷ others) = volume ∷ sealed_in (next ∷ others)

-- where no book is known, what is kept of the captures agrees with a book, in which each that a line told of keeps its whole wire
pub record IsMadeUp (g : Gathered) : Type 0 where
  pub spots : AreSpotsOf (book_of g.held) g.spots.items
  pub made : AreHeldWhole (book_of g.held) g.spots.items

-- the entries are in order of their numbers, which are those of captures, and tell their targets, dates and digests
pub record AreNumbered (g : Gathered) : Type 0 where
  pub in_order : IsStrictlySortedBy by_number g.entries.items
  pub below : (entry : Facts) → Contains g.entries.items entry → entry.number < length (captures (book_of g.held))
  pub named : AreNamed g.spots.items g.entries.items

-- the book has the request of each capture that was read
pub record AreRequested (g : Gathered) : Type 0 where
  pub each : (number : ℕ) (spot : Spot) → slice_get g.spots.items number ≡ Some spot → is_told_form spot.form ≡ false → HasRequest (book_of g.held) number

-- what a group refers to goes with what was found: with a number exactly where it refers to a record
abbrev pub RefersAt : Option Revisited → Option ℕ → Type 0
RefersAt same None = same ≡ None
RefersAt same (Some first) = same ≢ None

-- a volume more was gathered, which is empty
pub record HasBegunOne (was is : Gathered) (namespace : List ℕ) : Type 0 where
  pub captures_are : captures (book_of is.held) ≡ captures (book_of was.held)
  pub volumes : length (book_of is.held).volumes ≡ length (book_of was.held).volumes + 1
  pub sealed : sealed_in (book_of is.held).volumes ≡ (book_of was.held).volumes
  pub namespace_is : (book_of is.held).namespace ≡ namespace
  pub namespace_stays : 0 < length (book_of was.held).volumes → (book_of is.held).namespace ≡ (book_of was.held).namespace
  pub spots : is.spots.items ≡ was.spots.items
  pub filled : AreFilledBefore (book_of was.held) → AreFilledBefore (book_of is.held)
  pub numbered : AreNumbered was → AreNumbered is
  pub requested : AreRequested was → AreRequested is
  pub made : IsMadeUp was → IsMadeUp is

-- a capture more was gathered, whose group stands at this place
pub record HasTakenOne (was is : Gathered) (place : Place) : Type 0 where
  pub captures_are : length (captures (book_of is.held)) ≡ length (captures (book_of was.held)) + 1
  pub volumes : length (book_of is.held).volumes ≡ length (book_of was.held).volumes
  pub sealed : sealed_in (book_of is.held).volumes ≡ sealed_in (book_of was.held).volumes
  pub namespace : (book_of is.held).namespace ≡ (book_of was.held).namespace
  pub filled : AreFilledBefore (book_of was.held) → AreFilledBefore (book_of is.held)
  pub last : (k : ℕ) (volume : Volume) → k + 1 ≡ length (book_of is.held).volumes → slice_get (book_of is.held).volumes k ≡ Some volume → volume.captures ≢ []
  pub spot : Spot
  pub spots : is.spots.items ≡ was.spots.items ++ spot ∷ []
  pub read : is_told_form spot.form ≡ false
  pub volume_is : spot.volume ≡ place.volume
  pub at_is : spot.at ≡ place.at
  pub within : spot.head_at + spot.head_len + spot.wire_len ≤ place.at + place.len
  pub ends : place.at + place.len < 2 ^ 62
  pub numbered : AreNumbered was → AreNumbered is
  pub requested : AreRequested was → AreRequested is
  pub made : place.volume + 1 ≡ length (book_of was.held).volumes → IsMadeUp was → IsMadeUp is

-- whatever is known, what was found was gathered so
abbrev pub Shapes : Gathered → Gathered → Found → Bool → Type 0
Shapes was is (founds.Info volume namespace born) more = (more ≡ true) × (volume ≡ length (book_of was.held).volumes → HasBegunOne was is namespace)
Shapes was is (founds.Group place read) more = (more ≡ true) × HasTakenOne was is place
Shapes was is founds.End more = (more ≡ false) × (is ≡ was)
