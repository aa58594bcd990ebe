-- The group of a capture that is to stand behind all others of a book.
use Rattle.std.specs.Prelude.{◌≡◌, ℕ, ◌+◌, List, ◌++◌, length, slice_get, Option, Some, None}
use Rattle.sha1.specs.Sha1.{sha1}
use Rattle.capture.specs.Captures.{captures}
use Rattle.capture.specs.declared.book.Book.{Book}
use Rattle.capture.specs.declared.captured.Stored.{Stored}
use Rattle.capture.specs.declared.captured.Taken.{Taken}
use Rattle.warc_text.specs.Books.{same_of}
use Rattle.warc_text.specs.Lengths.{request_length}
use Rattle.warc_text.specs.Records.{group_text}
use Rattle.warc_text.specs.References.{reference_of}
use Rattle.warc_text.specs.declared.same_of.SameOf.{SameOf}
use Rattle.archive_volumes.specs.declared.group.Layout.{Layout}

-- what is told of the capture that is referred to, if to any
abbrev pub TellsSame : Book → Option ℕ → Option SameOf → Type 0
TellsSame book None other = other ≡ None
TellsSame book (Some first) other =
    (original : Stored) × (slice_get (captures book) first ≡ Some original) × (other ≡ Some (same_of first original))

-- the text is the group of a capture that was taken, whose payload this is, and that refers to this one, if to any
pub record IsGroupFor (book : Book) (taken : Taken) (payload : List ℕ) (same : Option ℕ) (text : List ℕ) : Type 0 where
  pub other : Option SameOf
  pub tells : TellsSame book same other
  pub composed : text ≡ group_text book.namespace (length (captures book)) taken (sha1 payload) (reference_of book.namespace other)

-- the block of its first record: the head, and the wire where it keeps that
abbrev pub block_of : Taken → Option ℕ → List ℕ
block_of taken None = taken.head ++ taken.wire
block_of taken (Some first) = taken.head

-- the block stands there in the group, and the first record is so long
pub record StandsAt (taken : Taken) (same : Option ℕ) (group : List ℕ) (layout : Layout) : Type 0 where
  pub front : List ℕ
  pub rest : List ℕ
  pub composed : group ≡ front ++ (block_of taken same ++ rest)
  pub head_at : layout.head_at ≡ length front
  pub record_len : layout.record_len + request_length taken ≡ length group
