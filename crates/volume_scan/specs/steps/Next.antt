-- What stands next in a file, of all that it has there.
use Rattle.std.specs.Prelude.{◌≡◌, ◌<◌, ◌≤◌, ℕ, List, [], ⊤}
use Rattle.capture.specs.Tails.{IsCommitted, IsTail}
use Rattle.record_opening.specs.Infos.{IsInfo}
use Rattle.warc_scan.specs.Answers.{BeginsWithGroup}
use Rattle.record_opening.specs.InfoAnswers.{BeginsWithInfo}
use Rattle.warc_scan.specs.Headed.{HasItsParts}
use Rattle.warc_scan.specs.declared.group.Group.{Group as GroupFound}
use Rattle.warc_text.specs.StandsFor.{commit_byte}
use Rattle.volume_scan.specs.declared.next.NextGroup.{NextGroup}
use Rattle.volume_scan.specs.declared.next.NextGroup.TheVariants as next_group
use Rattle.volume_scan.specs.declared.next.NextInfo.{NextInfo}
use Rattle.volume_scan.specs.declared.next.NextInfo.TheVariants as next_info
use Rattle.volume_scan.specs.declared.next.Unsaid.{Unsaid}
use Rattle.volume_scan.specs.declared.next.Unsaid.TheVariants.{Need, Memory}
use Rattle.volume_scan.specs.Placed.{HasGroupText}
use Rattle.warc_journal.specs.declared.extent.Further.{Further}
use Rattle.warc_journal.specs.declared.extent.Further.TheVariants.{Absent, Empty, Unknown}

-- the rest of a volume, behind its warcinfo or a group
abbrev pub IsNextGroup : List ℕ → ℕ → List ℕ → NextGroup → Type 0
IsNextGroup namespace number rest (next_group.Group read) = BeginsWithGroup namespace number rest read.group
IsNextGroup namespace number rest next_group.Nothing = rest ≡ []
IsNextGroup namespace number rest next_group.Tail = IsTail commit_byte rest
IsNextGroup namespace number rest next_group.Damaged =
    IsCommitted commit_byte rest × ((group : GroupFound) → ¬ (BeginsWithGroup namespace number rest group))

-- a volume's file
abbrev pub IsNextInfo : ℕ → List ℕ → NextInfo → Type 0
IsNextInfo volume rest (next_info.Info namespace born len) = BeginsWithInfo volume rest namespace born len
IsNextInfo volume rest next_info.Nothing = rest ≡ []
IsNextInfo volume rest next_info.Tail = IsTail commit_byte rest
IsNextInfo volume rest next_info.Damaged =
    IsCommitted commit_byte rest × ((namespace : List ℕ) (born len : ℕ) → ¬ (BeginsWithInfo volume rest namespace born len))

-- a warcinfo
pub record HasInfoText (volume : ℕ) (namespace : List ℕ) (born len : ℕ) : Type 0 where
  pub text : List ℕ
  pub is : IsInfo volume text namespace born len

-- whatever a disk tells, a group that is answered is one
abbrev pub FitsGroup : List ℕ → ℕ → ℕ → NextGroup → Type 0
FitsGroup namespace number room (next_group.Group read) = HasGroupText namespace number room read.group × HasItsParts read
FitsGroup namespace number room next_group.Nothing = ⊤
FitsGroup namespace number room next_group.Tail = ⊤
FitsGroup namespace number room next_group.Damaged = ⊤

-- and a warcinfo
abbrev pub FitsInfo : ℕ → NextInfo → Type 0
FitsInfo volume (next_info.Info namespace born len) = HasInfoText volume namespace born len
FitsInfo volume next_info.Nothing = ⊤
FitsInfo volume next_info.Tail = ⊤
FitsInfo volume next_info.Damaged = ⊤

-- more is asked for than was read, and no more than there is
abbrev pub Asks : ℕ → ℕ → Unsaid → Type 0
Asks read room (Need n) = (read < n) × (n ≤ room)
Asks read room Memory = ⊤

-- what is known of the file behind the last volume's: it is empty, or holds a tail
abbrev pub IsFurther : Further → List ℕ → Type 0
IsFurther Absent file = ⊥
IsFurther Empty file = file ≡ []
IsFurther Unknown file = IsTail commit_byte file
