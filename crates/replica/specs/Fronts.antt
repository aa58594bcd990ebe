-- A replica whose source goes on growing, and may be stopped and started.
use Rattle.std.specs.Prelude.{ℕ, ◌<◌, Bool, IsTrue, List, [], ◌∷◌, length, Result, Ok, Err, ⊤}
use Rattle.archive_core.specs.Holdings.{Holdings}
use Rattle.archive_core.specs.Told.{told_of}
use Rattle.archive_shelf.specs.Openings.{Moves, SameBook}
use Rattle.archive_shelf.specs.Pieces.{IsPiece}
use Rattle.capture.specs.Captures.{captures}
use Rattle.capture.specs.Growth.{Grows}
use Rattle.capture.specs.declared.book.Book.{Book}
use Rattle.disk_model.specs.declared.disk.Disk.{Ghosts as Disks}
use Rattle.exchange.specs.declared.aim.Target.{Target}
use Rattle.outside.specs.Records.{Links}
use Rattle.outside.specs.declared.dialer.Transcript.{Transcript}
use Rattle.replica.specs.Following.{HasFollowed, Step}
use Rattle.replica.specs.declared.following.Stop.{Stop}
use Rattle.replica.specs.declared.following.Stop.TheVariants.{Source, Piece}
use Rattle.archive_pieces.specs.declared.fault.PieceFault.TheVariants as pieces
use Rattle.warc_text.specs.Sound.{IsSound}
use Rattle.warc_text.specs.StandsFor.{IdsDifferIn}

-- the source's book when it gave a piece, which is that of the capture with this number
pub record GaveFrom (now : Book) (number : ℕ) (piece : List ℕ) : Type 0 where
  pub sound : IsSound now
  pub ids : IdsDifferIn now
  pub there : number < length (captures now)
  pub is : IsPiece now number piece

-- What was taken came of a source's book, which grew from one to another meanwhile.
abbrev pub ComeOf : {D : Type 0} → List (Step D) → Book → Book → Type 0
ComeOf [] first last = Grows first last
ComeOf (step ∷ steps) first last =
    (now : Book) × Grows first now × GaveFrom now (length (captures step.before.book)) step.piece × ComeOf steps now last

-- what was given for this number was refused as no piece
abbrev pub refused_as_none : ℕ → Result ⊤ Stop
refused_as_none number = Err (Piece number pieces.NotAPiece)

-- So long as the archive was a front of the source's book before, it is one of its last book after each piece, wherever it stopped.
abbrev pub ReplicasAreFronts : {D : Type 0} → Disks D → Type 0
ReplicasAreFronts {D} disks =
    (source : Target) (tells : Bool) (was is : Holdings D) (links_was links_is : Links Transcript) (result : Result ⊤ Stop) (first last : Book)
    → (f : HasFollowed disks source tells was is links_was links_is result) → IsTrue was.told → Grows was.book first → ComeOf f.steps first last
    → Grows f.reached.book last

-- And a piece of its book, as it is then, isn't refused as none.
abbrev pub PiecesAreTaken : {D : Type 0} → Disks D → Type 0
PiecesAreTaken {D} disks =
    (source : Target) (tells : Bool) (was is : Holdings D) (links_was links_is : Links Transcript) (number : ℕ) (first last now : Book)
    → (f : HasFollowed disks source tells was is links_was links_is (refused_as_none number)) → IsTrue was.told → Grows was.book first → ComeOf f.steps first last
    → Grows last now → GaveFrom now (length (captures f.reached.book)) f.refused → ⊥

-- ---- at a stop

-- the same book as one from which the source's has grown
abbrev pub IsFrontOf : Book → Book → Type 0
IsFrontOf source x = (b : Book) × SameBook x b × Grows b source

-- what was given last, where it was refused, came of this book of the source
abbrev pub RefusedCameOf : {D : Type 0} → Result ⊤ Stop → List ℕ → Holdings D → Book → Type 0
RefusedCameOf (Ok done) piece reached now = ⊤
RefusedCameOf (Err (Source number fault)) piece reached now = ⊤
RefusedCameOf (Err (Piece number fault)) piece reached now = GaveFrom now (length (captures reached.book)) piece

-- A book that may be opened behind it, at whatever moment a crash stops it, might have been opened before, or is a front of the source's last book.
abbrev pub StopsLeaveFronts : {D : Type 0} → Disks D → Type 0
StopsLeaveFronts {D} disks =
    (source : Target) (tells : Bool) (was is : Holdings D) (links_was links_is : Links Transcript) (result : Result ⊤ Stop) (first last now : Book)
    → (f : HasFollowed disks source tells was is links_was links_is result) → IsTrue was.told → Grows was.book first → ComeOf f.steps first last
    → Grows last now → RefusedCameOf result f.refused f.reached now → Moves (told_of disks was).crash (told_of disks is).crash (IsFrontOf now)
