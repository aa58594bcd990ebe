-- What a revisit refers to, of the captures that were read before it.
use Rattle.std.specs.Prelude.{◌≡◌, ◌≢◌, ℕ, ◌<◌, List, length, IfSome, Option, Some, None}
use Rattle.sha1.specs.Sha1.{sha1}
use Rattle.capture.specs.Captures.{KeepsPayload, captures}
use Rattle.capture.specs.WellFormed.{IsHeadBefore}
use Rattle.capture.specs.declared.book.Book.{Book}
use Rattle.capture.specs.declared.captured.Kept.{Kept}
use Rattle.capture.specs.declared.captured.Kept.TheVariants.{Wire, Same, Cut}
use Rattle.capture.specs.declared.captured.Stored.{Stored}
use Rattle.warc_scan.specs.Groups.{reference_in}
use Rattle.warc_scan.specs.declared.group.Group.{Group}
use Rattle.warc_text.specs.Books.{same_of}
use Rattle.warc_text.specs.Ids.{id_of}
use Rattle.warc_text.specs.declared.id.IdKind.TheVariants.{Response}
use Rattle.warc_text.specs.References.{reference_to}

-- The earlier capture with this number is the one that a revisit refers to: it keeps its whole wire, has the id, the target, the
-- date and the digest that the revisit says, and its payload is as long as the revisit's head tells.
pub record IsOriginalOf (book : Book) (number : ℕ) (group : Group) (first : ℕ) : Type 0 where
  pub earlier : first < number
  pub original : Stored
  pub wire : List ℕ
  pub payload : List ℕ
  pub keeps : KeepsPayload book first original wire payload
  pub refers : reference_in group.same ≡ Some (reference_to book.namespace (same_of first original))
  pub digest : group.digest ≡ sha1 payload
  pub head : IsHeadBefore group.stored.method group.stored.head payload

-- what is kept of a group's capture, by what was found of it
abbrev pub IsKeptAs : Book → ℕ → Group → Kept → Kept → Type 0
IsKeptAs book number group (Wire wire) kept = kept ≡ Wire wire
IsKeptAs book number group (Same unknown) kept = (first : ℕ) × (kept ≡ Same first) × IsOriginalOf book number group first
IsKeptAs book number group (Cut wire) kept = kept ≡ Cut wire

-- the capture of the group, which refers to the capture that its record names
pub record IsCaptureOf (book : Book) (number : ℕ) (group : Group) (stored : Stored) : Type 0 where
  pub kept : IsKeptAs book number group group.stored.kept stored.kept
  pub others : stored ≡ record group.stored { kept = stored.kept }

-- what a group refers to, as it was found: to nothing, or to the capture that its record names
abbrev pub RefersRight : Book → Group → Option ℕ → Type 0
RefersRight book group None = group.same ≡ None
RefersRight book group (Some first) = (group.same ≢ None) × IsOriginalOf book (length (captures book)) group first

-- it refers to this capture, and no other one before it has that one's id
pub record HasItsOriginal (book : Book) (group : Group) : Type 0 where
  pub first : ℕ
  pub of : IsOriginalOf book (length (captures book)) group first
  pub alone : (number : ℕ) → number < length (captures book) → id_of book.namespace Response number ≡ id_of book.namespace Response first
      → number ≡ first

-- where a book is known, a group that refers to a capture has its original
abbrev pub MayRefer : Option Book → Book → Group → Type 0
MayRefer known book group = IfSome known (λ _. group.same ≢ None → HasItsOriginal book group)

-- it refers to a record, which is that of no capture
pub record RefersToNone (book : Book) (group : Group) : Type 0 where
  pub some : group.same ≢ None
  pub none : (first : ℕ) → IsOriginalOf book (length (captures book)) group first → ⊥
