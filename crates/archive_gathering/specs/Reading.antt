-- What was read of files so far: a sound book, with whose texts each book for which the files stand begins.
use Rattle.std.specs.Prelude.{◌≡◌, ℕ, ◌<◌, ◌^◌, List, length, Option, Some, None, ⊤}
use Rattle.capture.specs.BodyLaws.{CapturesHaveOnePayload}
use Rattle.capture.specs.Captures.{captures}
use Rattle.capture.specs.GrowthLaws.{GrowthKeepsCaptures}
use Rattle.capture.specs.declared.book.Book.{Book}
use Rattle.volume_scan.specs.Books.{AreFronts, BeginsWith, BooksGoOnWithGroups, BooksGoOnWithInfos}
use Rattle.warc_text.specs.Books.{AreVolumeTexts, IsGroupText}
use Rattle.warc_text.specs.Growth.{GroupsStay, LastVolumeGoesOn, NumbersHaveOneGroup, SealedVolumesStay, SoundVolumesHaveOneText}
use Rattle.warc_text.specs.Sound.{IsSound}
use Rattle.warc_text.specs.StandsFor.{StandsFor}

-- what lower crates promise of texts and books
pub record Laws : Type 0 where
  pub infos : BooksGoOnWithInfos
  pub groups : BooksGoOnWithGroups
  pub groups_stay : GroupsStay
  pub sealed_stay : SealedVolumesStay
  pub last_goes_on : LastVolumeGoesOn
  pub one_group : NumbersHaveOneGroup
  pub one_text : SoundVolumesHaveOneText
  pub one_payload : CapturesHaveOnePayload
  pub keeps : GrowthKeepsCaptures

-- the two books have one text of the group with this number
pub record ShareGroup (book x : Book) (number : ℕ) : Type 0 where
  pub text : List ℕ
  pub short : length text < 2 ^ 63
  pub mine : IsGroupText book number text
  pub others : IsGroupText x number text

-- the other book begins with the texts of this one, and has the same groups so far
pub record IsBegunBy (book : Book) (texts : List (List ℕ)) (x : Book) : Type 0 where
  pub begins : BeginsWith x texts book.namespace (length (captures book))
  pub shares : (number : ℕ) → number < length (captures book) → ShareGroup book x number

-- any book may be meant, or the one that is known
abbrev pub MayBe : Option Book → Book → Type 0
MayBe None x = ⊤
MayBe (Some book) x = x ≡ book

-- the texts are those of a sound book, and each sound book that may be meant, for which files stand that go on from them, begins with them
pub record IsRead (known : Option Book) (book : Book) (texts : List (List ℕ)) : Type 0 where
  pub sound : IsSound book
  pub are : AreVolumeTexts book texts
  pub goes_on : (files : List (List ℕ)) (x : Book) → MayBe known x → AreFronts texts files → IsSound x → StandsFor files x → IsBegunBy book texts x

-- no files that begin with these texts stand for a sound book that may be meant
abbrev pub IsDeadEnd : Option Book → List (List ℕ) → Type 0
IsDeadEnd known texts = (files : List (List ℕ)) → AreFronts texts files → (book : Book) → MayBe known book → IsSound book → StandsFor files book → ⊥
