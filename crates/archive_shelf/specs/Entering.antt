-- The entries of a book that gained a capture: the old ones, and the capture's.
use Rattle.std.specs.Prelude.{◌≡◌, ◌⊎◌, ℕ, ◌+◌, List, [], ◌∷◌, ◌++◌, length, Some, Contains}
use Rattle.httparse.specs.Grammar.{ResponseHead, status_code}
use Rattle.sha1.specs.Sha1.{sha1}
use Rattle.capture.specs.Captures.{captures}
use Rattle.capture.specs.Fields.{named_values}
use Rattle.capture.specs.Growth.{Grows}
use Rattle.capture.specs.Message.{IsResponseHeadText}
use Rattle.capture.specs.declared.book.Book.{Book}
use Rattle.capture.specs.declared.captured.Stored.{Stored}
use Rattle.index_entry.specs.Facts.{Facts}
use Rattle.index_entry.specs.OfBook.{AreOf, IsEntryOf, IsFoundByDate, mime_by, record_of}
use Rattle.index_entry.specs.Order.{with_entry}
use Rattle.surt_key.specs.Key.{key_of}
use Rattle.warc_text.specs.Books.{IsGroupText, IsVolumeText}
use Rattle.archive_shelf.specs.Storing.{with_capture}

-- an entry of a book is one of each book that has grown from it
abbrev pub EntriesStay : Type 0
EntriesStay = (old new : Book) (number : ℕ) (entry : Facts) → Grows old new → IsEntryOf old number entry → IsEntryOf new number entry

-- an entry tells of a capture that is to stand behind all others: where the last volume's text ends, how long its record
-- is, and what its head tells
pub record TellsOfNew (book : Book) (stored : Stored) (entry : Facts) : Type 0 where
  pub head : ResponseHead
  pub parsed : IsResponseHeadText stored.head head
  pub keyed : key_of stored.uri ≡ Some entry.key
  pub date_is : entry.date ≡ stored.date
  pub number_is : entry.number ≡ length (captures book)
  pub uri_is : entry.uri ≡ stored.uri
  pub mime_is : entry.mime ≡ mime_by stored.kept (named_values head.fields)
  pub status_is : entry.status ≡ status_code head
  pub volume_is : entry.volume + 1 ≡ length book.volumes
  pub text : List ℕ
  pub ends : IsVolumeText book entry.volume text
  pub offset_is : entry.offset ≡ length text
  pub group_text : List ℕ
  pub group : IsGroupText (with_capture book stored) (length (captures book)) group_text
  pub digest_is : entry.digest ≡ sha1 group.payload
  pub length_is : entry.length ≡ length (record_of (with_capture book stored) (length (captures book)) stored group.payload group.same)

-- it is then the capture's entry
abbrev pub NewEntriesAreOfTheirCaptures : Type 0
NewEntriesAreOfTheirCaptures =
    (book : Book) (stored : Stored) (entry : Facts) → TellsOfNew book stored entry
    → IsEntryOf (with_capture book stored) (length (captures book)) entry

-- the entries of a book with a capture behind all others: with its own, if it is found by date
abbrev pub EntriesGainOne : Type 0
EntriesGainOne =
    (old new : Book) (stored : Stored) (entries : List Facts) (entry : Facts) → Grows old new
    → captures new ≡ captures old ++ stored ∷ [] → AreOf old entries → IsFoundByDate stored
    → entry.number ≡ length (captures old) → IsEntryOf new (length (captures old)) entry → AreOf new (with_entry entry entries)

-- else the old ones
abbrev pub EntriesAreAll : Type 0
EntriesAreAll =
    (old new : Book) (stored : Stored) (entries : List Facts) → Grows old new → captures new ≡ captures old ++ stored ∷ []
    → AreOf old entries → (IsFoundByDate stored → ⊥) → AreOf new entries

-- a book with the same captures has the same entries
abbrev pub EntriesStayAll : Type 0
EntriesStayAll =
    (old new : Book) (entries : List Facts) → Grows old new → captures new ≡ captures old → AreOf old entries → AreOf new entries
