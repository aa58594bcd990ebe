-- The book after a capture was stored, or a volume begun.
use Rattle.std.specs.Prelude.{◌≡◌, ◌≢◌, ◌⊎◌, ℕ, ◌+◌, ◌<◌, ◌≤◌, Bool, true, false, if◌then◌else◌, nat_eq, count_by, List, [], ◌∷◌, ◌++◌, length, slice_get, Option, Some, None}
use Rattle.capture.specs.Captures.{captures}
use Rattle.capture.specs.declared.book.Book.{Book}
use Rattle.capture.specs.declared.book.Volume.{Volume}
use Rattle.capture.specs.declared.captured.Kept.{Kept}
use Rattle.capture.specs.declared.captured.Kept.TheVariants.{Wire, Same, Cut}
use Rattle.capture.specs.declared.captured.Stored.{Stored}
use Rattle.capture.specs.declared.captured.Taken.{Taken}
use Rattle.warc_text.specs.Books.{IsVolumeText}
use Rattle.archive_shelf.specs.Comparing.{IsSameAs}
use Rattle.archive_shelf.specs.declared.counts.Counts.{Counts}

-- what is kept of a capture, by whether it was cut and what it refers to
abbrev pub kept_of : Bool → List ℕ → Option ℕ → Kept
kept_of true wire same = Cut wire
kept_of false wire None = Wire wire
kept_of false wire (Some first) = Same first

-- a capture as it stands in a book
abbrev pub as_stored : Taken → Option ℕ → Stored
as_stored taken same = record {
  method = taken.method;
  uri = taken.uri;
  date = taken.date;
  request = taken.request;
  head = taken.head;
  kept = kept_of taken.cut taken.wire same;
}

-- a book without volumes
abbrev pub empty_book : List ℕ → Book
empty_book namespace = record { namespace = namespace; volumes = [] }

-- the book with a new volume, without captures
abbrev pub with_volume : Book → ℕ → Book
with_volume book born = record { namespace = book.namespace; volumes = book.volumes ++ record { born = born; captures = [] } ∷ [] }

-- the volumes with a capture more in the last one
abbrev pub add_to_last : List Volume → Stored → List Volume
add_to_last [] stored = []
add_to_last (last ∷ []) stored = record { born = last.born; captures = last.captures ++ stored ∷ [] } ∷ []
add_to_last (first ∷ next ∷ others) stored = first ∷ add_to_last (next ∷ others) stored

-- the book with a capture more in its last volume
abbrev pub with_capture : Book → Stored → Book
with_capture book stored = record { namespace = book.namespace; volumes = add_to_last book.volumes stored }

-- the last volume of a book, and its number
pub record HasLast (book : Book) : Type 0 where
  pub number : ℕ
  pub volume : Volume
  pub is_last : number + 1 ≡ length book.volumes
  pub placed : slice_get book.volumes number ≡ Some volume

-- A capture needs a new volume: there is none, or the last one holds a capture and its text would pass the limit with this one. It doesn't: the last
-- volume holds no capture, or its text stays within the limit with this one.
abbrev pub NeedsVolume : ℕ → Book → Stored → Bool → Type 0
NeedsVolume limit book stored true =
    (book.volumes ≡ [])
    ⊎ ((last : HasLast book) × (last.volume.captures ≢ [])
    × (text : List ℕ) × IsVolumeText (with_capture book stored) last.number text × (limit < length text))
NeedsVolume limit book stored false =
    (last : HasLast book) × ((last.volume.captures ≡ [])
    ⊎ ((text : List ℕ) × IsVolumeText (with_capture book stored) last.number text × (length text ≤ limit)))

-- how a book takes a capture: what that refers to, and the book with room for it: with a new volume, born at its date, exactly where it needs one
pub record Storing (limit : ℕ) (book : Book) (taken : Taken) : Type 0 where
  pub same : Option ℕ
  pub unfilled : Book
  pub refers : IsSameAs book taken same
  pub roomy : (NeedsVolume limit book (as_stored taken same) false × (unfilled ≡ book))
      ⊎ (NeedsVolume limit book (as_stored taken same) true × (unfilled ≡ with_volume book taken.date))

-- the book after it
abbrev pub stored_by : {limit : ℕ} {book : Book} {taken : Taken} → Storing limit book taken → Book
stored_by {limit} {book} {taken} storing = with_capture storing.unfilled (as_stored taken storing.same)

-- a book gained this capture alone, behind all others, in its last volume or in a new one that was born at its date
pub record Gains (old : Book) (stored : Stored) (new : Book) : Type 0 where
  pub room : Book
  pub roomy : ((old.volumes ≢ []) × (room ≡ old)) ⊎ (room ≡ with_volume old stored.date)
  pub gained : new ≡ with_capture room stored

-- a volume without captures
abbrev pub new_volume : ℕ → Volume
new_volume born = record { born = born; captures = [] }

-- the volumes with a new one behind, where the last holds a capture
abbrev pub rolled_in : List Volume → ℕ → List Volume
rolled_in [] now = []
rolled_in (last ∷ []) now = if nat_eq (length last.captures) 0 then last ∷ [] else last ∷ new_volume now ∷ []
rolled_in (first ∷ next ∷ others) now = first ∷ rolled_in (next ∷ others) now

-- the book after a volume was asked for
abbrev pub rolled : Book → ℕ → Book
rolled book now = record { namespace = book.namespace; volumes = rolled_in book.volumes now }

-- the capture keeps another one's number
abbrev pub is_revisit : Kept → Bool
is_revisit (Wire wire) = false
is_revisit (Same first) = true
is_revisit (Cut wire) = false

-- what a book holds, in numbers
abbrev pub counts_of : Book → Counts
counts_of book = record {
  captures = length (captures book);
  revisits = count_by (λ (stored : Stored). is_revisit stored.kept) (captures book);
  volumes = length book.volumes;
}
