-- How many captures each volume has that an opening by checkpoints finds, as bytes alone say: as many as groups stand in its file, or as its checkpoint has lines.
use Rattle.std.specs.Prelude.{◌≡◌, ◌≢◌, ◌⊎◌, ℕ, zero, suc, ◌+◌, ◌-◌, ◌<◌, ◌≤◌, Bool, true, false, nat_eq, List, [], drop, length, take, slice_get, Some}
use Rattle.capture.specs.Captures.{captures, captures_in, first_number}
use Rattle.capture.specs.Tails.{IsRest}
use Rattle.capture.specs.declared.book.Book.{Book}
use Rattle.capture.specs.declared.book.Volume.{Volume}
use Rattle.cdxj_line.specs.declared.line.Line.{Line}
use Rattle.checkpoint.specs.Checkpoints.{IsCheckpoint, checkpoint_of}
use Rattle.disk_model.specs.Image.{Image, file_count, file_of}
use Rattle.disk_model.specs.declared.kind.Kind.TheVariants.{Warc}
use Rattle.volume_scan.specs.declared.position.Position.{Position}
use Rattle.volume_scan.specs.declared.position.Stage.{Stage}
use Rattle.volume_scan.specs.declared.position.Stage.TheVariants.{Opened, Skipped}
use Rattle.warc_scan.specs.Answers.{BeginsWithGroup}
use Rattle.record_opening.specs.InfoAnswers.{BeginsWithInfo}
use Rattle.warc_scan.specs.declared.group.Group.{Group}
use Rattle.warc_text.specs.StandsFor.{commit_byte}
use Rattle.archive_volumes.specs.Facts.{facts_of}
use Rattle.archive_gathering.specs.Lines.{AreTakable}
use Rattle.archive_gathering.specs.Shapes.{sealed_in}
use Rattle.archive_opening.specs.declared.telling.Step.{Step}
use Rattle.archive_opening.specs.declared.telling.Step.TheVariants as steps

-- a volume with its number, the archive's namespace, the number of its first capture, how many captures it has, and whether it is the last one
pub record Counted : Type 0 where
  pub number : ℕ
  pub namespace : List ℕ
  pub first : ℕ
  pub count : ℕ
  pub last : Bool

-- ---- by its groups

-- the warcinfo of the volume stands at the front of the bytes, and ends at this place (ISO 28500, WARC 1.1, section 6.2)
pub record InfoEndsAt (number : ℕ) (namespace bytes : List ℕ) (place : ℕ) : Type 0 where
  pub born : ℕ
  pub begins : BeginsWithInfo number bytes namespace born place

-- the group of a capture stands from one place to another (section 6)
pub record GroupStands (namespace : List ℕ) (number : ℕ) (bytes : List ℕ) (from to : ℕ) : Type 0 where
  pub group : Group
  pub begins : BeginsWithGroup namespace number (drop from bytes) group
  pub ends : to ≡ from + group.len

-- the warcinfo stands, the groups of so many captures from the first on, one behind the other, and they end at this place
abbrev pub StandsUpTo : (volume : ℕ) (namespace : List ℕ) (first : ℕ) (bytes : List ℕ) → ℕ → ℕ → Type 0
StandsUpTo volume namespace first bytes zero place = InfoEndsAt volume namespace bytes place
StandsUpTo volume namespace first bytes (suc n) place =
    (from : ℕ) × StandsUpTo volume namespace first bytes n from × GroupStands namespace (first + n) bytes from place

-- what may stand behind the groups: nothing, or in the last volume an unfinished tail
abbrev pub IsSoundRest : Bool → List ℕ → Type 0
IsSoundRest true rest = IsRest commit_byte rest
IsSoundRest false rest = rest ≡ []

-- the bytes hold the volume's warcinfo and the groups of just its captures
pub record HoldsJust (volume : Counted) (bytes : List ℕ) : Type 0 where
  pub place : ℕ
  pub stands : StandsUpTo volume.number volume.namespace volume.first bytes volume.count place
  pub rest : IsSoundRest volume.last (drop place bytes)

-- ---- by the lines of its checkpoint

-- The lines tell of the volume with this first capture, whose groups aren't read then: another file stands behind its own, its checkpoint is finished with
-- them, and they are those of the captures from the first on.
pub record IsToldBy (image : Image) (volume first : ℕ) (lines : List Line) : Type 0 where
  pub followed : volume + 1 < file_count image Warc
  pub finished : IsCheckpoint volume lines (checkpoint_of image volume)
  pub takable : AreTakable first (length (file_of image Warc volume)) lines

-- no lines do
abbrev pub IsUntold : Image → ℕ → ℕ → Type 0
IsUntold image volume first = (lines : List Line) → IsToldBy image volume first lines → ⊥

-- ---- by either

-- lines tell of it, as many as it has captures
pub record HasItsLines (image : Image) (volume : Counted) : Type 0 where
  pub lines : List Line
  pub told : IsToldBy image volume.number volume.first lines
  pub count : volume.count ≡ length lines

-- none do, and its file holds the groups of just its captures
pub record HasItsGroups (image : Image) (volume : Counted) : Type 0 where
  pub untold : IsUntold image volume.number volume.first
  pub holds : HoldsJust volume (file_of image Warc volume.number)

abbrev pub HasCountOf : Image → Counted → Type 0
HasCountOf image volume = HasItsLines image volume ⊎ HasItsGroups image volume

-- its file begins with its warcinfo
abbrev pub HasInfo : Image → List ℕ → ℕ → Type 0
HasInfo image namespace volume = (end : ℕ) × InfoEndsAt volume namespace (file_of image Warc volume) end

-- a volume of the book that has so many captures
abbrev pub counted_in : Book → ℕ → ℕ → Counted
counted_in book k count = record {
  number = k;
  namespace = book.namespace;
  first = first_number book k;
  count = count;
  last = nat_eq (suc k) (length book.volumes);
}

-- The book has just the volumes whose files begin with a finished warcinfo, each in the book's namespace, and so many captures in each of them as its groups
-- are or its checkpoint tells.
pub record HasCountsOf (image : Image) (book : Book) : Type 0 where
  pub infos : (k : ℕ) → k < length book.volumes → HasInfo image book.namespace k
  pub none : (k : ℕ) (namespace : List ℕ) → length book.volumes ≤ k → HasInfo image namespace k → ⊥
  pub counts : (k : ℕ) (volume : Volume) → slice_get book.volumes k ≡ Some volume → HasCountOf image (counted_in book k (length volume.captures))

-- the same volumes by how many captures they have, in one namespace, if there are any
pub record SameCounts (a b : Book) : Type 0 where
  pub facts : facts_of a ≡ facts_of b
  pub namespace : 0 < length a.volumes → a.namespace ≡ b.namespace

-- what bytes say of that is one
abbrev pub BytesHaveOneCount : Type 0
BytesHaveOneCount = (image : Image) (a b : Book) → HasCountsOf image a → HasCountsOf image b → SameCounts a b

-- The groups of the last volume end at this place of its file: as many as the book has captures in it, behind its warcinfo.
abbrev pub LastEndsAt : Image → Book → ℕ → Type 0
LastEndsAt image book end = (k : ℕ) → k + 1 ≡ length book.volumes
    → StandsUpTo k book.namespace (length (captures_in (sealed_in book.volumes))) (file_of image Warc k)
    (length (captures book) - length (captures_in (sealed_in book.volumes))) end

-- ---- while it reads

-- so it is with each of the first volumes, behind which another one stands
abbrev pub AreCounted : Image → List ℕ → List Volume → Type 0
AreCounted image namespace sealed = (k : ℕ) (volume : Volume) → slice_get sealed k ≡ Some volume → HasCountOf image (record {
  number = k;
  namespace = namespace;
  first = length (captures_in (take k sealed));
  count = length volume.captures;
  last = false;
})

-- what was found of a volume up to a place: lines tell of it, or its warcinfo stands there, and so many groups
abbrev pub Reaches : Stage → Image → Counted → ℕ → Type 0
Reaches Skipped image volume place = HasItsLines image volume
Reaches Opened image volume place = (volume.count ≡ 0) × InfoEndsAt volume.number volume.namespace (file_of image Warc volume.number) place
Reaches other image volume place = StandsUpTo volume.number volume.namespace volume.first (file_of image Warc volume.number) volume.count place

-- the volume behind the first ones, as far as it was gathered
abbrev pub last_counted : Book → ℕ → Counted
last_counted book k = record {
  number = k;
  namespace = book.namespace;
  first = length (captures_in (sealed_in book.volumes));
  count = length (captures book) - length (captures_in (sealed_in book.volumes));
  last = false;
}

-- the book has what was found up to the position
pub record CountsUpTo (image : Image) (position : Position) (book : Book) : Type 0 where
  pub infos : (k : ℕ) → k < length book.volumes → HasInfo image book.namespace k
  pub sealed : AreCounted image book.namespace (sealed_in book.volumes)
  pub last : (k : ℕ) → k + 1 ≡ length book.volumes → Reaches position.stage image (last_counted book k) position.extent.end

-- the volume that was begun last is read: lines told of it, or none do
abbrev pub IsReadOn : Image → Position → Book → Type 0
IsReadOn image position book = (k : ℕ) → k + 1 ≡ length book.volumes → position.stage ≢ Skipped → IsUntold image k (length (captures_in (sealed_in book.volumes)))

-- both
abbrev pub CountsOn : Image → Position → Book → Type 0
CountsOn image position book = CountsUpTo image position book × IsReadOn image position book

-- so it goes on after a step, or all is counted
abbrev pub CountsTo : Image → Position → Book → Step → Type 0
CountsTo image position book (steps.Begun volume) = CountsUpTo image position book
CountsTo image position book steps.More = CountsOn image position book
CountsTo image position book steps.End = HasCountsOf image book × LastEndsAt image book position.extent.end

abbrev pub CountsOnTo : Image → Position → Book → Bool → Type 0
CountsOnTo image position book true = CountsOn image position book
CountsOnTo image position book false = HasCountsOf image book × LastEndsAt image book position.extent.end
