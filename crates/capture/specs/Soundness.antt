-- Which captures a book may hold, by what they keep. The range of dates and births is told with their texts.
use Rattle.std.specs.Prelude.{◌≡◌, ℕ, ◌+◌, ◌-◌, ◌^◌, ◌<◌, List, length, slice_get, All, Some, IsTrue}
use Rattle.capture.specs.Captures.{captures, KeepsPayload}
use Rattle.capture.specs.Target.{is_accepted_uri}
use Rattle.capture.specs.WellFormed.{IsCutResponseTo, IsHeadBefore, IsRequestOf, IsResponseTo}
use Rattle.capture.specs.declared.book.Book.{Book}
use Rattle.capture.specs.declared.book.Volume.{Volume}
use Rattle.capture.specs.declared.captured.Kept.{Kept}
use Rattle.capture.specs.declared.captured.Kept.TheVariants.{Wire, Same, Cut}
use Rattle.capture.specs.declared.captured.Stored.{Stored}

-- the capture with this number has the payload of the first one, which is earlier and keeps its whole wire; its head
-- tells of that payload
pub record IsSoundRevisit (book : Book) (number : ℕ) (stored : Stored) (first : ℕ) : Type 0 where
  pub earlier : first < number
  pub original : Stored
  pub wire : List ℕ
  pub payload : List ℕ
  pub keeps : KeepsPayload book first original wire payload
  pub head : IsHeadBefore stored.method stored.head payload

-- what is kept is sound: a whole response; the payload of an earlier one; or a response that was cut
abbrev pub IsSoundBy : Book → ℕ → Stored → Kept → Type 0
IsSoundBy book number stored (Wire wire) = IsResponseTo stored.method stored.head wire
IsSoundBy book number stored (Same first) = IsSoundRevisit book number stored first
IsSoundBy book number stored (Cut wire) = IsCutResponseTo stored.method stored.head wire

-- the capture with this number is sound: an accepted target, a whole request, and what is kept
pub record IsSoundCapture (book : Book) (number : ℕ) (stored : Stored) : Type 0 where
  pub target : IsTrue (is_accepted_uri stored.uri)
  pub request : IsRequestOf stored.method stored.request
  pub kept : IsSoundBy book number stored stored.kept

-- the captures of the book are sound, and each volume but the last holds one
pub record HasSoundCaptures (book : Book) : Type 0 where
  -- there are fewer captures than 32 bits have numbers
  pub few : length (captures book) < 2 ^ 32 - 1
  -- each request is shorter than 2^34 bytes
  pub short_requests : All (λ stored. length stored.request < 2 ^ 34) (captures book)
  pub filled : (k : ℕ) (volume : Volume) → slice_get book.volumes k ≡ Some volume → k + 1 < length book.volumes
      → 0 < length volume.captures
  pub each : (number : ℕ) (stored : Stored) → slice_get (captures book) number ≡ Some stored
      → IsSoundCapture book number stored
