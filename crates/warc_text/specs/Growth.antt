-- What the texts of a book keep when it grows, and that they are one.
use Rattle.std.specs.Prelude.{◌≡◌, ℕ, ◌+◌, ◌<◌, List, [], ◌++◌, length, slice_get, slice_index_or, Some}
use Rattle.capture.specs.Captures.{first_number}
use Rattle.capture.specs.Growth.{Grows}
use Rattle.capture.specs.declared.book.Book.{Book}
use Rattle.capture.specs.declared.book.Volume.{Volume}
use Rattle.warc_text.specs.Books.{IsGroupText, IsVolumeText, joined}
use Rattle.warc_text.specs.Sound.{IsSound}

-- the groups that a book has stay when it grows
abbrev pub GroupsStay : Type 0
GroupsStay = (old new : Book) (number : ℕ) (text : List ℕ) → Grows old new → IsGroupText old number text → IsGroupText new number text

-- so do the texts of its volumes but the last
abbrev pub SealedVolumesStay : Type 0
SealedVolumesStay =
    (old new : Book) (k : ℕ) (text : List ℕ) → Grows old new → k + 1 < length old.volumes
    → IsVolumeText old k text → IsVolumeText new k text

-- the volume has so many captures behind those that it had, and these are their groups
pub record AreAdded (old new : Book) (k : ℕ) (groups : List (List ℕ)) : Type 0 where
  pub before : Volume
  pub after : Volume
  pub was : slice_get old.volumes k ≡ Some before
  pub is : slice_get new.volumes k ≡ Some after
  pub count : length after.captures ≡ length before.captures + length groups
  pub each : (j : ℕ) → j < length groups
      → IsGroupText new (first_number new k + length before.captures + j) (slice_index_or groups j [])

-- the text of its last volume stays at the front, and the groups of what is added follow
abbrev pub LastVolumeGoesOn : Type 0
LastVolumeGoesOn =
    (old new : Book) (k : ℕ) (text : List ℕ) (groups : List (List ℕ)) → Grows old new → k + 1 ≡ length old.volumes
    → IsVolumeText old k text → AreAdded old new k groups → IsVolumeText new k (text ++ joined groups)

-- the one text of a volume
pub record IsOneText (book : Book) (k : ℕ) : Type 0 where
  pub text : List ℕ
  pub is : IsVolumeText book k text
  pub only : (other : List ℕ) → IsVolumeText book k other → text ≡ other

-- each volume of a sound book has one text
abbrev pub SoundVolumesHaveOneText : Type 0
SoundVolumesHaveOneText = (book : Book) (k : ℕ) → IsSound book → k < length book.volumes → IsOneText book k

-- two texts of one group: they are of one capture, one payload and one reference, and are equal
pub record IsOneGroup (book : Book) (number : ℕ) (text other : List ℕ) (a : IsGroupText book number text) (b : IsGroupText book number other) : Type 0 where
  pub stored : a.stored ≡ b.stored
  pub payload : a.payload ≡ b.payload
  pub refers : a.same ≡ b.same
  pub texts : text ≡ other

-- a number has one group
abbrev pub NumbersHaveOneGroup : Type 0
NumbersHaveOneGroup =
    (book : Book) (number : ℕ) (text other : List ℕ) (a : IsGroupText book number text) (b : IsGroupText book number other)
    → IsOneGroup book number text other a b
