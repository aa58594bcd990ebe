-- Which book a list of Warc files stands for.
use Rattle.std.specs.Prelude.{◌≡◌, ℕ, ◌<◌, ◌^◌, List, ◌++◌, length, slice_get, Option, Some}
use Rattle.capture.specs.Captures.{captures}
use Rattle.capture.specs.declared.book.Book.{Book}
use Rattle.capture.specs.declared.captured.Stored.{Stored}
use Rattle.capture.specs.declared.captured.Taken.{Taken}
use Rattle.warc_text.specs.Books.{AreVolumeTexts, IsGroupText}
use Rattle.warc_text.specs.Groups.{IdsDiffer}
use Rattle.capture.specs.Tails.{HoldsTexts, IsCommitted}
use Rattle.warc_text.specs.Records.{info_text, group_text}
use Rattle.warc_text.specs.References.{Reference}
use Rattle.warc_text.specs.Sound.{IsSound}

-- the first byte of a finished group, and of a finished warcinfo: `W`
abbrev pub commit_byte : ℕ
commit_byte = 87

-- warcinfos and groups begin with the commit byte
abbrev pub InfosAreCommitted : Type 0
InfosAreCommitted = (namespace : List ℕ) (volume born : ℕ) → IsCommitted commit_byte (info_text namespace volume born)

abbrev pub GroupsAreCommitted : Type 0
GroupsAreCommitted =
    (namespace : List ℕ) (number : ℕ) (taken : Taken) (digest : List ℕ) (same : Option Reference)
    → IsCommitted commit_byte (group_text namespace number taken digest same)

-- the files hold the texts of the book's volumes
pub record StandsFor (files : List (List ℕ)) (book : Book) : Type 0 where
  pub texts : List (List ℕ)
  pub are : AreVolumeTexts book texts
  pub held : HoldsTexts commit_byte texts files

-- the ids of the book's responses differ
abbrev pub IdsDifferIn : Book → Type 0
IdsDifferIn book = IdsDiffer book.namespace (length (captures book))

-- where the ids differ, texts that begin with groups of one number, of sound books of one namespace, are of one capture,
-- and go on alike
abbrev pub GroupsOfBooksTellTheirCaptures : Type 0
GroupsOfBooksTellTheirCaptures =
    (a b : Book) (number : ℕ) (x y : Stored) (g h after other : List ℕ) → IsSound a → IsSound b → IdsDifferIn a
    → a.namespace ≡ b.namespace → slice_get (captures a) number ≡ Some x → slice_get (captures b) number ≡ Some y
    → IsGroupText a number g → IsGroupText b number h → length g < 2 ^ 62 → length h < 2 ^ 62
    → g ++ after ≡ h ++ other → (x ≡ y) × (after ≡ other)

-- where the ids differ, files stand for one sound book at most, if that has a volume
abbrev pub FilesStandForOneBook : Type 0
FilesStandForOneBook =
    (files : List (List ℕ)) (a b : Book) → IsSound a → IsSound b → IdsDifferIn a
    → StandsFor files a → StandsFor files b → 0 < length a.volumes → a ≡ b

-- files that stand for a book without volumes stand for such books alone
abbrev pub FilesStandForNoVolume : Type 0
FilesStandForNoVolume =
    (files : List (List ℕ)) (a b : Book) → StandsFor files a → StandsFor files b → length a.volumes ≡ 0
    → length b.volumes ≡ 0
