-- The text of a book: of its groups by their numbers, and of its volumes.
use Rattle.std.specs.Prelude.{◌≡◌, ℕ, ◌+◌, ◌<◌, List, [], ◌++◌, length, slice_get, slice_index_or, Option, Some, None}
use Rattle.std.specs.List.{flat_map}
use Rattle.sha1.specs.Sha1.{sha1}
use Rattle.capture.specs.Captures.{captures, first_number, taken_back, IsPayloadBy}
use Rattle.capture.specs.declared.book.Book.{Book}
use Rattle.capture.specs.declared.book.Volume.{Volume}
use Rattle.capture.specs.declared.captured.Kept.{Kept}
use Rattle.capture.specs.declared.captured.Kept.TheVariants.{Wire, Same, Cut}
use Rattle.capture.specs.declared.captured.Stored.{Stored}
use Rattle.warc_text.specs.declared.same_of.SameOf.{SameOf}
use Rattle.warc_text.specs.Records.{info_text, group_text}
use Rattle.warc_text.specs.References.{reference_of}

-- what a revisit says of the capture with this number
abbrev pub same_of : ℕ → Stored → SameOf
same_of number stored = record { number = number; uri = stored.uri; date = stored.date }

-- what the group of a capture refers to, by what it keeps
abbrev pub RefersBy : Book → Kept → Option SameOf → Type 0
RefersBy book (Wire wire) same = same ≡ None
RefersBy book (Same first) same =
    (original : Stored) × (slice_get (captures book) first ≡ Some original) × (same ≡ Some (same_of first original))
RefersBy book (Cut wire) same = same ≡ None

-- the group with this number: of the capture as far as it is kept, with the digest of its payload
pub record IsGroupText (book : Book) (number : ℕ) (text : List ℕ) : Type 0 where
  pub stored : Stored
  pub payload : List ℕ
  pub same : Option SameOf
  pub placed : slice_get (captures book) number ≡ Some stored
  pub payload_is : IsPayloadBy book stored stored.kept payload
  pub refers : RefersBy book stored.kept same
  pub composed : text ≡ group_text book.namespace number (taken_back stored) (sha1 payload) (reference_of book.namespace same)

-- texts joined
abbrev pub joined : List (List ℕ) → List ℕ
joined texts = flat_map (λ text. text) texts

-- the text of the volume with this number: its warcinfo, and its groups in order
pub record IsVolumeText (book : Book) (k : ℕ) (text : List ℕ) : Type 0 where
  pub volume : Volume
  pub groups : List (List ℕ)
  pub placed : slice_get book.volumes k ≡ Some volume
  pub count : length groups ≡ length volume.captures
  pub each : (j : ℕ) → j < length groups → IsGroupText book (first_number book k + j) (slice_index_or groups j [])
  pub composed : text ≡ info_text book.namespace k volume.born ++ joined groups

-- the texts of all volumes, in order
pub record AreVolumeTexts (book : Book) (texts : List (List ℕ)) : Type 0 where
  pub count : length texts ≡ length book.volumes
  pub each : (k : ℕ) → k < length texts → IsVolumeText book k (slice_index_or texts k [])
