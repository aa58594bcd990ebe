-- The next piece of a book: that of the capture which one that goes on from it has behind its own.
use Rattle.std.specs.Prelude.{◌≡◌, ◌⊎◌, ℕ, ◌+◌, ◌<◌, true, List, [], length, slice_get, Option, Some, None}
use Rattle.capture.specs.Captures.{captures}
use Rattle.capture.specs.Growth.{Grows}
use Rattle.capture.specs.declared.book.Book.{Book}
use Rattle.capture.specs.declared.book.Volume.{Volume}
use Rattle.time_text.specs.Texts.{InRange}
use Rattle.warc_text.specs.Records.{info_text}
use Rattle.warc_text.specs.Sound.{IsSound}
use Rattle.warc_text.specs.StandsFor.{IdsDifferIn}
use Rattle.archive_shelf.specs.Pieces.{IsPiece}
use Rattle.archive_volumes.specs.Held.{is_filled}

-- The book that has this piece as its next capture, which stands in its last volume.
pub record Takes (book : Book) (bytes : List ℕ) (after : Book) : Type 0 where
  pub sound : IsSound after
  pub grown : Grows book after
  pub count : length (captures after) ≡ length (captures book) + 1
  pub last : is_filled after.volumes ≡ true
  pub piece : IsPiece after (length (captures book)) bytes

-- the warcinfo of the last volume, which has no capture yet
pub record IsOfEmpty (book : Book) (front : List ℕ) : Type 0 where
  pub number : ℕ
  pub volume : Volume
  pub last : number + 1 ≡ length book.volumes
  pub placed : slice_get book.volumes number ≡ Some volume
  pub none : volume.captures ≡ []
  pub info : front ≡ info_text book.namespace number volume.born

-- a volume may be begun: there is none, or the last one holds a capture
abbrev pub MayBegin : Book → Type 0
MayBegin book = (book.volumes ≡ []) ⊎ (is_filled book.volumes ≡ true)

-- What stands before the group of the next capture: nothing, behind those of the last volume; the warcinfo of that, where it has none; or
-- the warcinfo of a volume that is begun for it.
abbrev pub IsFrontBy : Book → List ℕ → Option ℕ → Type 0
IsFrontBy book front None = ((is_filled book.volumes ≡ true) × (front ≡ [])) ⊎ IsOfEmpty book front
IsFrontBy book front (Some born) = MayBegin book × InRange born × (front ≡ info_text book.namespace (length book.volumes) born)

-- ---- the law of growing prefixes

-- The piece of a source's next capture leads from the book to one that has it, of which the source has grown; where the ids differ, to no
-- other one.
pub record LeadsOn (book source : Book) (bytes : List ℕ) : Type 0 where
  pub next : Book
  pub takes : Takes book bytes next
  pub grown : Grows next source
  pub only : IdsDifferIn source → (after : Book) → Takes book bytes after → after ≡ next

abbrev pub NextPiecesLeadOn : Type 0
NextPiecesLeadOn =
    (book source : Book) (bytes : List ℕ) → IsSound source → Grows book source → length (captures book) < length (captures source)
    → IsPiece source (length (captures book)) bytes → LeadsOn book source bytes
