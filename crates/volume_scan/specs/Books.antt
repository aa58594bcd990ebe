-- What was read, of the books for which the files stand.
use Rattle.std.specs.Prelude.{◌≡◌, ◌≢◌, ◌<◌, ◌≤◌, ℕ, ◌+◌, List, [], ◌∷◌, ◌++◌, length, slice_get, slice_index_or, Some}
use Rattle.capture.specs.Captures.{captures, first_number}
use Rattle.capture.specs.declared.book.Book.{Book}
use Rattle.capture.specs.declared.book.Volume.{Volume}
use Rattle.warc_journal.specs.Extents.{texts_in}
use Rattle.warc_journal.specs.Texts.{Hold, with_more}
use Rattle.warc_scan.specs.Groups.{IsGroup}
use Rattle.record_opening.specs.Infos.{IsInfo}
use Rattle.warc_scan.specs.declared.group.Group.{Group as GroupFound}
use Rattle.warc_text.specs.Books.{IsGroupText, IsVolumeText, joined}
use Rattle.warc_text.specs.Sound.{IsSound}
use Rattle.warc_text.specs.StandsFor.{StandsFor}
use Rattle.volume_scan.specs.Damage.{IsDamagedAt}
use Rattle.volume_scan.specs.Scannings.{LiesIn}
use Rattle.volume_scan.specs.declared.position.Position.{Position}
use Rattle.volume_scan.specs.declared.position.Stage.TheVariants.{Skipped}

-- the text is that of a volume up to the group with this number, behind which its other groups follow
pub record IsReadUpTo (book : Book) (k : ℕ) (text : List ℕ) (number : ℕ) : Type 0 where
  pub volume : Volume
  pub groups : List (List ℕ)
  pub placed : slice_get book.volumes k ≡ Some volume
  pub count : number + length groups ≡ first_number book k + length volume.captures
  pub each : (j : ℕ) → j < length groups → IsGroupText book (number + j) (slice_index_or groups j [])
  pub whole : IsVolumeText book k (text ++ joined groups)

-- the book begins with these texts of volumes, in which its captures up to this number stand
pub record BeginsWith (book : Book) (texts : List (List ℕ)) (namespace : List ℕ) (number : ℕ) : Type 0 where
  pub none : length texts ≡ 0 → number ≡ 0
  pub enough : length texts ≤ length book.volumes
  pub namespace_is : 0 < length texts → namespace ≡ book.namespace
  pub last : (k : ℕ) → k + 1 ≡ length texts → IsReadUpTo book k (slice_index_or texts k []) number

-- the warcinfo that was found is that of a volume of the book: its namespace and its birth
pub record IsVolumeOf (book : Book) (volume : ℕ) (namespace : List ℕ) (born : ℕ) : Type 0 where
  pub namespace_is : namespace ≡ book.namespace
  pub there : volume < length book.volumes
  pub birth : (v : Volume) → slice_get book.volumes volume ≡ Some v → v.born ≡ born

-- the files begin with the texts: each but the last is all that its file holds
pub record AreFronts (texts files : List (List ℕ)) : Type 0 where
  pub enough : length texts ≤ length files
  pub sealed : (k : ℕ) → k + 1 < length texts → slice_index_or files k [] ≡ slice_index_or texts k []
  pub last : (k : ℕ) → k + 1 ≡ length texts → (rest : List ℕ) × (slice_index_or files k [] ≡ slice_index_or texts k [] ++ rest)

-- ---- laws

-- the files begin with what was read
abbrev pub FilesBeginWithWhatWasRead : Type 0
FilesBeginWithWhatWasRead =
    (position : Position) (files : List (List ℕ)) → LiesIn position files → AreFronts (texts_in position.extent files) files

-- a book for which the files stand begins with the warcinfos that are found
abbrev pub BooksGoOnWithInfos : Type 0
BooksGoOnWithInfos =
    (files : List (List ℕ)) (book : Book) (texts : List (List ℕ)) (namespace : List ℕ) (number : ℕ) (text other : List ℕ) (born : ℕ)
    → IsSound book → StandsFor files book → BeginsWith book texts namespace number
    → IsInfo (length texts) text other born (length text) → AreFronts (texts ++ text ∷ []) files
    → BeginsWith book (texts ++ text ∷ []) other number × IsVolumeOf book (length texts) other born

-- and with the groups
abbrev pub BooksGoOnWithGroups : Type 0
BooksGoOnWithGroups =
    (files : List (List ℕ)) (book : Book) (texts : List (List ℕ)) (namespace : List ℕ) (number : ℕ) (text : List ℕ) (group : GroupFound)
    → IsSound book → StandsFor files book → BeginsWith book texts namespace number → 0 < length texts
    → IsGroup namespace number text group → AreFronts (with_more texts text) files
    → BeginsWith book (with_more texts text) namespace (number + 1) × IsGroupText book number text

-- where the files stand for no sound book that begins with what was read
abbrev pub DamagedFilesStandForNoBook : Type 0
DamagedFilesStandForNoBook =
    (position : Position) (files : List (List ℕ)) (book : Book) (file place : ℕ) → IsSound book → StandsFor files book
    → position.stage ≢ Skipped → position.extent.volumes ≤ length files
    → BeginsWith book (texts_in position.extent files) position.namespace position.captures
    → ¬ (IsDamagedAt position files file place)

-- and where they stand for no sound book that goes on behind the volume whose rest was skipped
abbrev pub DamageBehindSkippedIsOfNoBook : Type 0
DamageBehindSkippedIsOfNoBook =
    (position : Position) (files : List (List ℕ)) (book : Book) (file place : ℕ) → IsSound book → StandsFor files book
    → position.stage ≡ Skipped → LiesIn position files → position.extent.volumes < length book.volumes
    → ¬ (IsDamagedAt position files file place)

-- a book that begins with what was read, for which files stand that hold just that, has no more: neither volumes nor captures
abbrev pub BooksEndWithWhatWasRead : Type 0
BooksEndWithWhatWasRead =
    (files : List (List ℕ)) (book : Book) (texts : List (List ℕ)) (namespace : List ℕ) (number : ℕ)
    → IsSound book → StandsFor files book → BeginsWith book texts namespace number → Hold texts files
    → (length book.volumes ≡ length texts) × (length (captures book) ≡ number)

-- The rest of the last volume was skipped as that of so many captures, and a volume was found in the next file: a book in which
-- the skipped volume has its captures up to that number begins with all that its file holds.
abbrev pub BooksGoOnWithSkipped : Type 0
BooksGoOnWithSkipped =
    (files : List (List ℕ)) (book : Book) (texts : List (List ℕ)) (namespace : List ℕ) (number : ℕ) (k : ℕ) (volume : Volume) (rest : List ℕ)
    (skipped : ℕ) (text other : List ℕ) (born : ℕ)
    → IsSound book → StandsFor files book → BeginsWith book texts namespace number
    → k + 1 ≡ length texts → slice_get book.volumes k ≡ Some volume → number + skipped ≡ first_number book k + length volume.captures
    → IsInfo (length texts) text other born (length text) → AreFronts (with_more texts rest ++ text ∷ []) files
    → BeginsWith book (with_more texts rest) namespace (number + skipped)
