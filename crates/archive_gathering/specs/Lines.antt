-- What is gathered of the lines of a volume.
use Rattle.std.specs.Prelude.{◌≡◌, ◌≢◌, ℕ, suc, ◌+◌, ◌-◌, ◌^◌, ◌<◌, ◌≤◌, List, [], ◌∷◌, ◌++◌, length, codes, if◌then◌else◌, option_to_list, Option, Some, None, slice_get, slice_index_or, unwrap_or, ⊤}
use Rattle.std.specs.List.Sorted.{IsPermutation}
use Rattle.std.specs.Ordering.{nat_cmp}
use Rattle.std.specs.declared.cmp.Ordering.{Ordering}
use Rattle.capture.specs.Captures.{captures}
use Rattle.capture.specs.declared.book.Book.{Book}
use Rattle.capture.specs.declared.captured.Kept.TheVariants.{Wire, Same}
use Rattle.capture.specs.declared.captured.Stored.{Stored}
use Rattle.index_entry.specs.Facts.{Facts}
use Rattle.index_entry.specs.OfLine.{facts_of}
use Rattle.cdxj_line.specs.declared.line.Line.{Line}
use Rattle.checkpoint.specs.OfVolume.{IsLineOf}
use Rattle.warc_text.specs.Sound.{IsSound}
use Rattle.warc_text.specs.StandsFor.{IdsDifferIn}
use Rattle.archive_shelf.specs.Storing.{with_capture}
use Rattle.archive_gathering.specs.Gathering.{IsGathered}
use Rattle.archive_gathering.specs.Reading.{IsBegunBy}
use Rattle.archive_gathering.specs.Shapes.{AreFilledBefore, AreNumbered, AreRequested, sealed_in}
use Rattle.archive_volumes.specs.Spots.{HasPlace}
use Rattle.capture.specs.declared.book.Volume.{Volume}
use Rattle.archive_volumes.specs.Held.{book_of}
use Rattle.archive_volumes.specs.Lines.{is_revisit_line, told_spot}
use Rattle.archive_gathering.specs.declared.gathered.Gathered.{Gathered}

-- a capture that is made up for a line where the book isn't known: without a request and a head, and with an empty wire unless it is a revisit
abbrev pub made_of : Line → Stored
made_of line = record {
  method = line.method;
  uri = line.url;
  date = line.date;
  request = [];
  head = [];
  kept = if is_revisit_line line then Same 0 else Wire [];
}

-- the capture of which a line tells: that of the known book, or one that is made up
abbrev pub capture_by : Option Book → Line → Stored
capture_by (Some book) line = unwrap_or (slice_get (captures book) line.number) (made_of line)
capture_by None line = made_of line

-- the line's entry, where its capture is found by date
abbrev pub EntersLine : Line → Option Facts → Type 0
EntersLine line (Some entry) = (line.method ≡ codes "GET") × (line.status ≢ 304) × (entry ≡ facts_of line)
EntersLine line None = line.method ≡ codes "GET" → line.status ≢ 304 → ⊥

-- the line is that of the capture with this number, and its record stands in a file of this length
pub record IsNext (number len : ℕ) (line : Line) : Type 0 where
  pub number_is : line.number ≡ number
  pub few : number + 1 < 2 ^ 32 - 1
  pub short : length line.url < 2 ^ 61
  pub within : line.offset + line.length ≤ len

-- the lines are those of the captures from this number on, one each
abbrev pub AreNext : ℕ → ℕ → List Line → Type 0
AreNext first len [] = ⊤
AreNext first len (line ∷ lines) = IsNext first len line × AreNext (suc first) len lines

-- the record of each line stands behind that of the line before it, the first one behind this place
abbrev pub AreBehind : ℕ → List Line → Type 0
AreBehind at [] = ⊤
AreBehind at (line ∷ lines) = (at ≤ line.offset) × AreBehind (line.offset + line.length) lines

-- by the numbers of their captures
abbrev pub line_numbers : Line → Line → Ordering
line_numbers a b = nat_cmp a.number b.number

-- Lines, in whatever order, that are taken in place of groups: they are those of the captures from this number on, one each, whose records stand one
-- behind the other in a file of this length.
pub record AreTakable (first len : ℕ) (lines : List Line) : Type 0 where
  pub in_order : List Line
  pub moved : IsPermutation lines in_order
  pub next : AreNext first len in_order
  pub behind : AreBehind 0 in_order

-- what is added of a line whose capture is this one
pub record HasAddedLine (was is : Gathered) (stored : Stored) (line : Line) : Type 0 where
  pub book : book_of is.held ≡ with_capture (book_of was.held) stored
  pub spots : is.spots.items ≡ was.spots.items ++ told_spot line ∷ []
  pub lengths : is.lengths.items ≡ was.lengths.items ++ 0 ∷ []
  pub entry : Option Facts
  pub entries : is.entries.items ≡ was.entries.items ++ option_to_list entry
  pub enters : EntersLine line entry

-- the last volume holds a capture, if there is one
abbrev pub IsLastFilled : Book → Type 0
IsLastFilled book = (k : ℕ) (volume : Volume) → k + 1 ≡ length book.volumes → slice_get book.volumes k ≡ Some volume → volume.captures ≢ []

-- so many captures more in the last volume
pub record HasMoreCaptures (was is : Gathered) (count : ℕ) : Type 0 where
  pub captures_are : length (captures (book_of is.held)) ≡ length (captures (book_of was.held)) + count
  pub volumes : length (book_of is.held).volumes ≡ length (book_of was.held).volumes
  pub sealed : sealed_in (book_of is.held).volumes ≡ sealed_in (book_of was.held).volumes
  pub namespace : (book_of is.held).namespace ≡ (book_of was.held).namespace
  pub filled : AreFilledBefore (book_of was.held) → AreFilledBefore (book_of is.held)
  pub last : 0 < count → IsLastFilled (book_of is.held)
  pub numbered : AreNumbered was → AreNumbered is
  pub requested : AreRequested was → AreRequested is

-- what is kept of these lines' captures is within the texts
abbrev pub ArePlacedIn : List (List ℕ) → List Line → Type 0
ArePlacedIn texts [] = ⊤
ArePlacedIn texts (line ∷ lines) = HasPlace texts (told_spot line) × ArePlacedIn texts lines

-- what was gathered is what this book begins with, which has these texts
pub record IsSoFar (book : Book) (g : Gathered) (texts : List (List ℕ)) : Type 0 where
  pub sound : IsSound book
  pub ids : IdsDifferIn book
  pub some : 0 < length texts
  pub gathered : IsGathered (Some book) g texts
  pub begun : IsBegunBy (book_of g.held) texts book

-- a line of the book, of its volume with the last of these texts
pub record IsLineIn (book : Book) (texts : List (List ℕ)) (line : Line) : Type 0 where
  pub of : IsLineOf book line.number line
  pub volume_is : line.volume + 1 ≡ length texts

abbrev pub AreLinesIn : Book → List (List ℕ) → List Line → Type 0
AreLinesIn book texts [] = ⊤
AreLinesIn book texts (line ∷ lines) = IsLineIn book texts line × AreLinesIn book texts lines

-- what was gathered has come further in the last of these texts
pub record HasCome (book : Book) (g : Gathered) (texts : List (List ℕ)) : Type 0 where
  pub now : List (List ℕ)
  pub so_far : IsSoFar book g now
  pub count : length now ≡ length texts
  pub others : (k : ℕ) → k + 1 < length texts → slice_index_or now k [] ≡ slice_index_or texts k []

-- it has come so far, and these lines of the book are left
pub record Comes (book : Book) (texts : List (List ℕ)) (g : Gathered) (rest : List Line) : Type 0 where
  pub come : HasCome book g texts
  pub left : AreLinesIn book texts rest
