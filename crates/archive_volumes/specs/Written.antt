-- What writing a capture leaves of the volumes' files, by their bytes.
use Rattle.std.specs.Prelude.{◌≡◌, ◌⊎◌, ℕ, List, OnErr, OnOk, Result}
use Rattle.disk_model.specs.Crash.{Leaves}
use Rattle.disk_model.specs.Moments.{AddsOnly}
use Rattle.disk_model.specs.declared.disk.Disk.{Ghosts}
use Rattle.warc_journal.specs.Journals.{IsLeft, disk_of, texts}
use Rattle.warc_journal.specs.Extents.{warc_files}
use Rattle.warc_journal.specs.Texts.{AreJust, Hold, HoldEither}
use Rattle.warc_journal.specs.declared.journal.Journal.{Journal}

-- the files hold the texts before, those with room for a capture, or those with it
abbrev pub HoldOneOf : List (List ℕ) → List (List ℕ) → List (List ℕ) → List (List ℕ) → Type 0
HoldOneOf before room after files = Hold before files ⊎ (Hold room files ⊎ Hold after files)

-- the texts to which a call leads that writes a capture: those with room for it, and those with it
pub record NextTexts : Type 0 where
  pub room : List (List ℕ)
  pub after : List (List ℕ)

abbrev pub texts_as : List (List ℕ) → List (List ℕ) → NextTexts
texts_as room after = record { room = room; after = after }

-- What a call leaves that writes a capture, once a volume was begun if it needs one, or is refused: of each disk that tells, whatever is told of
-- the book. At each moment a crash leaves what it might have left before, or the texts before, with room or after, beside the checkpoints of an
-- image from before. Once it is done a read gives the texts after, and a crash leaves these alone. Refused, a read gives the texts before, or
-- those with room; and where these aren't the texts before, a crash leaves no others than those with room, or after.
pub record WritesTexts {D T E : Type 0} (d : Ghosts D) (old new : Journal D) (next : NextTexts) (result : Result T E) : Type 0 where
  pub leaves : AddsOnly d.moment d.images_since (disk_of old) (disk_of new)
      (IsLeft (d.images (disk_of old)) (HoldOneOf (texts d old) next.room next.after))
  pub only : OnOk result (Leaves (d.images (disk_of new)) (IsLeft (d.images (disk_of old)) (AreJust next.after)))
  pub added : OnOk result (texts d new ≡ next.after)
  pub stays : OnErr result ((texts d new ≡ texts d old) ⊎ (texts d new ≡ next.room))
  pub refused : OnErr result ((texts d new ≡ texts d old) ⊎ Leaves (d.images (disk_of new)) (λ image. HoldEither next.room next.after (warc_files image)))
