-- How the entry of a capture that is ready enters the index.
use Rattle.std.specs.Prelude.{◌≡◌, List, Option}
use Rattle.capture.specs.Message.{IsResponseHeadText}
use Rattle.capture.specs.declared.captured.Stored.{Stored}
use Rattle.index_entry.specs.Facts.{Facts}
use Rattle.httparse.specs.Grammar.{ResponseHead}
use Rattle.archive_volumes.specs.Entries.{EntersAs, entered}
use Rattle.archive_volumes.specs.declared.entry.RecordAt.{RecordAt}

-- the entry of the capture, whose record is to stand there, is in the index, or it has none
pub record HasEntered (stored : Stored) (at : RecordAt) (old new : List Facts) : Type 0 where
  pub entry : Option Facts
  pub enters : (h : ResponseHead) → IsResponseHeadText stored.head h → EntersAs stored h at entry
  pub is : new ≡ entered entry old
