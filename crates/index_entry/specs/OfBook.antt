-- The entries of a book: what an index holds of its captures.
use Rattle.std.specs.Prelude.{◌≡◌, ◌≢◌, ℕ, ◌+◌, ◌<◌, List, [], ◌++◌, length, codes, slice_get, slice_index_or, Option, Some, Contains}
use Rattle.std.specs.List.Sorted.{IsStrictlySortedBy}
use Rattle.std.specs.Ordering.{nat_cmp}
use Rattle.std.specs.declared.cmp.Ordering.{Ordering}
use Rattle.httparse.specs.Grammar.{ResponseHead, status_code}
use Rattle.sha1.specs.Sha1.{sha1}
use Rattle.capture.specs.Captures.{captures, first_number, taken_back}
use Rattle.capture.specs.Fields.{NamedValue, named_values}
use Rattle.capture.specs.Message.{IsResponseHeadText}
use Rattle.capture.specs.declared.book.Book.{Book}
use Rattle.capture.specs.declared.book.Volume.{Volume}
use Rattle.capture.specs.declared.captured.Kept.{Kept}
use Rattle.capture.specs.declared.captured.Kept.TheVariants.{Wire, Same, Cut}
use Rattle.capture.specs.declared.captured.Stored.{Stored}
use Rattle.cdxj_line.specs.MediaType.{media_type_of}
use Rattle.surt_key.specs.Key.{key_of}
use Rattle.warc_text.specs.Books.{IsGroupText, joined}
use Rattle.warc_text.specs.Ids.{id_of}
use Rattle.warc_text.specs.Records.{info_text, answer_text}
use Rattle.warc_text.specs.References.{reference_of}
use Rattle.warc_text.specs.declared.id.IdKind.TheVariants.{Response}
use Rattle.warc_text.specs.declared.same_of.SameOf.{SameOf}
use Rattle.index_entry.specs.Facts.{Facts}
use Rattle.index_entry.specs.Queries.{IsIndex}

-- the media type of an entry: that of a revisit is its own
abbrev pub mime_by : Kept → List NamedValue → List ℕ
mime_by (Wire wire) fields = media_type_of fields
mime_by (Same first) fields = codes "warc/revisit"
mime_by (Cut wire) fields = media_type_of fields

-- what stands in a volume's text before its capture at this place: the warcinfo, and the groups of the captures before
pub record IsBefore (book : Book) (k place : ℕ) (text : List ℕ) : Type 0 where
  pub volume : Volume
  pub groups : List (List ℕ)
  pub placed : slice_get book.volumes k ≡ Some volume
  pub within : place < length volume.captures
  pub count : length groups ≡ place
  pub each : (j : ℕ) → j < length groups → IsGroupText book (first_number book k + j) (slice_index_or groups j [])
  pub composed : text ≡ info_text book.namespace k volume.born ++ joined groups

-- the record of a capture's response, or the revisit in its place
abbrev pub record_of : Book → ℕ → Stored → List ℕ → Option SameOf → List ℕ
record_of book number stored payload same =
    answer_text (id_of book.namespace Response number) (taken_back stored) (sha1 payload) (reference_of book.namespace same)

-- the entry is that of the capture with this number
pub record IsEntryOf (book : Book) (number : ℕ) (entry : Facts) : Type 0 where
  pub text : List ℕ
  pub group : IsGroupText book number text
  pub head : ResponseHead
  pub parsed : IsResponseHeadText group.stored.head head
  -- what is told of the capture
  pub keyed : key_of group.stored.uri ≡ Some entry.key
  pub date_is : entry.date ≡ group.stored.date
  pub number_is : entry.number ≡ number
  pub uri_is : entry.uri ≡ group.stored.uri
  pub mime_is : entry.mime ≡ mime_by group.stored.kept (named_values head.fields)
  pub status_is : entry.status ≡ status_code head
  pub digest_is : entry.digest ≡ sha1 group.payload
  -- where the record of its response stands, and how long it is
  pub place : ℕ
  pub before : List ℕ
  pub numbered : number ≡ first_number book entry.volume + place
  pub behind : IsBefore book entry.volume place before
  pub offset_is : entry.offset ≡ length before
  pub length_is : entry.length ≡ length (record_of book number group.stored group.payload group.same)

-- the capture is found by date: it was asked for by GET, and its response isn't 304 (RFC 9110, section 15.4.5)
pub record IsFoundByDate (stored : Stored) : Type 0 where
  pub head : ResponseHead
  pub parsed : IsResponseHeadText stored.head head
  pub asked : stored.method ≡ codes "GET"
  pub told : status_code head ≢ 304

-- the entries are those of the captures of the book that are found by date
pub record AreOf (book : Book) (entries : List Facts) : Type 0 where
  pub each : (entry : Facts) → Contains entries entry → IsEntryOf book entry.number entry
  pub found : (entry : Facts) (stored : Stored) → Contains entries entry
      → slice_get (captures book) entry.number ≡ Some stored → IsFoundByDate stored
  pub all : (number : ℕ) (stored : Stored) → slice_get (captures book) number ≡ Some stored → IsFoundByDate stored
      → (entry : Facts) × Contains entries entry × (entry.number ≡ number)

-- numbers in their order
abbrev pub by_number : Facts → Facts → Ordering
by_number a b = nat_cmp a.number b.number

-- the entries of a book, by number
pub record AreEntries (book : Book) (entries : List Facts) : Type 0 where
  pub in_order : IsStrictlySortedBy by_number entries
  pub of_book : AreOf book entries

-- the index of a book: its entries in order of key, date and number
pub record IsIndexOf (book : Book) (entries : List Facts) : Type 0 where
  pub index : IsIndex entries
  pub of_book : AreOf book entries

-- a book has one list of entries, and one index
abbrev pub BooksHaveOneIndex : Type 0
BooksHaveOneIndex = (book : Book) (entries other : List Facts) → IsIndexOf book entries → IsIndexOf book other → entries ≡ other

abbrev pub BooksHaveOneListOfEntries : Type 0
BooksHaveOneListOfEntries = (book : Book) (entries other : List Facts) → AreEntries book entries → AreEntries book other → entries ≡ other
