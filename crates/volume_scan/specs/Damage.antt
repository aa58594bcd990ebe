-- Where the files go on with nothing that an archive may hold.
use Rattle.std.specs.Prelude.{◌≡◌, ◌⊎◌, ◌<◌, ℕ, ◌+◌, List, length}
use Rattle.capture.specs.Tails.{IsCommitted, IsRest, IsTail}
use Rattle.warc_scan.specs.Answers.{BeginsWithGroup}
use Rattle.record_opening.specs.InfoAnswers.{BeginsWithInfo}
use Rattle.warc_scan.specs.declared.group.Group.{Group}
use Rattle.warc_text.specs.StandsFor.{commit_byte}
use Rattle.volume_scan.specs.Unread.{file_at, unread}
use Rattle.volume_scan.specs.declared.position.Position.{Position}
use Rattle.volume_scan.specs.declared.position.Stage.TheVariants.{Skipped}

-- the file begins with some warcinfo of the volume with its number
pub record BeginsVolume (files : List (List ℕ)) (volume : ℕ) : Type 0 where
  pub namespace : List ℕ
  pub born : ℕ
  pub len : ℕ
  pub info : BeginsWithInfo volume (file_at files volume) namespace born len

-- behind what was read stand the commit byte and more, but no group with the next number
pub record GroupIsDamaged (position : Position) (files : List (List ℕ)) (file place : ℕ) : Type 0 where
  pub file_is : file + 1 ≡ position.extent.volumes
  pub place_is : place ≡ position.extent.end
  pub committed : IsCommitted commit_byte (unread position files)
  pub none : (group : Group) → ¬ (BeginsWithGroup position.namespace position.captures (unread position files) group)

-- behind what was read stands a tail, but a further volume follows
pub record TailIsFollowed (position : Position) (files : List (List ℕ)) (file place : ℕ) : Type 0 where
  pub file_is : file + 1 ≡ position.extent.volumes
  pub place_is : place ≡ position.extent.end
  pub tail : IsTail commit_byte (unread position files)
  pub there : position.extent.volumes < length files
  pub follows : BeginsVolume files position.extent.volumes

-- why a further file may not be without a finished warcinfo: it begins with the commit byte and more, or another file follows,
-- or the volume before it is skipped
abbrev pub IsNoFurther : Position → List (List ℕ) → ℕ → Type 0
IsNoFurther position files file =
    IsCommitted commit_byte (file_at files file) ⊎ (file + 1 < length files) ⊎ (position.stage ≡ Skipped)

-- behind what was read stands nothing or a tail, and the next file doesn't begin with a warcinfo, but isn't one that a stop leaves
pub record NextIsNoVolume (position : Position) (files : List (List ℕ)) (file place : ℕ) : Type 0 where
  pub file_is : file ≡ position.extent.volumes
  pub place_is : place ≡ 0
  pub there : file < length files
  pub before : IsRest commit_byte (unread position files)
  pub none : (namespace : List ℕ) (born len : ℕ) → ¬ (BeginsWithInfo file (file_at files file) namespace born len)
  pub cause : IsNoFurther position files file

-- the files are damaged at this place, which is the first with which what was read doesn't go on
abbrev pub IsDamagedAt : Position → List (List ℕ) → ℕ → ℕ → Type 0
IsDamagedAt position files file place =
    GroupIsDamaged position files file place ⊎ TailIsFollowed position files file place
    ⊎ NextIsNoVolume position files file place
