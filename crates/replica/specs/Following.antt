-- Pieces of a source that an archive takes one after the other, up to the source's end or a stop, and what that leaves.
use Rattle.std.specs.Prelude.{◌≡◌, ◌⊎◌, ℕ, ◌≤◌, Bool, true, false, IsTrue, List, [], ◌∷◌, ◌++◌, length, Option, Some, None, Result, Ok, Err, ⊤}
use Rattle.archive_core.specs.Holdings.{Holdings}
use Rattle.archive_core.specs.Stood.{KeepsStood, Stood}
use Rattle.archive_core.specs.Told.{told_of}
use Rattle.archive_shelf.specs.Answers.{CountsIf}
use Rattle.archive_shelf.specs.Openings.{HasIds, KeepsCheckpoints, Moves, SameBook, StaysCovered}
use Rattle.archive_shelf.specs.Storing.{with_volume}
use Rattle.capture.specs.Captures.{captures}
use Rattle.capture.specs.Growth.{Grows}
use Rattle.capture.specs.declared.book.Book.{Book}
use Rattle.disk_model.specs.declared.disk.Disk.{Ghosts as Disks}
use Rattle.exchange.specs.declared.aim.Target.{Target}
use Rattle.outside.specs.Records.{Links}
use Rattle.outside.specs.declared.dialer.Transcript.{Transcript}
use Rattle.archive_pieces.specs.NextPieces.{Takes}
use Rattle.replica.specs.Sources.{Asks, is_outside}
use Rattle.archive_pieces.specs.PieceFaults.{is_take_fault}
use Rattle.archive_taking.specs.TakingPieces.{TakesPiece}
use Rattle.replica.specs.declared.asking.SourceFault.{SourceFault}
use Rattle.replica.specs.declared.following.Stop.{Stop}
use Rattle.replica.specs.declared.following.Stop.TheVariants.{Source, Piece}
use Rattle.archive_pieces.specs.declared.fault.PieceFault.TheVariants as pieces
use Rattle.time_text.specs.Texts.{InRange}
use Rattle.warc_text.specs.Records.{info_text}

-- a piece that was taken, the archive before and after it, and what is told of the dialer's links once the source gave it
pub record Step (D : Type 0) : Type 0 where
  pub piece : List ℕ
  pub before : Holdings D
  pub after : Holdings D
  pub links : Links Transcript

-- ---- which books a stop may leave

-- the book with the volume with whose warcinfo the piece begins
pub record HasVolumeFor (book : Book) (piece : List ℕ) (room : Book) : Type 0 where
  pub born : ℕ
  pub date : InRange born
  pub volume : room ≡ with_volume book born
  pub rest : List ℕ
  pub begins : piece ≡ info_text book.namespace (length book.volumes) born ++ rest

-- the book with room for the piece: itself, or with that volume
abbrev pub IsRoomFor : Book → List ℕ → Book → Type 0
IsRoomFor book piece room = (room ≡ book) ⊎ HasVolumeFor book piece room

-- taking a piece, wherever it is stopped, may leave this book: the one before, that with the volume that the piece begins, or the one that
-- has the piece as its next
abbrev pub MayLeave : Bool → Book → List ℕ → Book → Type 0
MayLeave told book piece x = SameBook x book ⊎ (IsRoomFor book piece x ⊎ (IsTrue told → Takes book piece x))

-- taking one of them may
abbrev pub IsOnWay : {D : Type 0} → List (Step D) → Book → Type 0
IsOnWay [] x = ⊥
IsOnWay (step ∷ steps) x = MayLeave step.before.told step.before.book step.piece x ⊎ IsOnWay steps x

-- and taking the one that the disk refused
abbrev pub IsOfRefused : {D : Type 0} → Result ⊤ Stop → List ℕ → Holdings D → Book → Type 0
IsOfRefused (Err (Piece number pieces.DiskFault)) piece reached x = MayLeave reached.told reached.book piece x
IsOfRefused other piece reached x = ⊥

-- the ids of each book on the way differ, and that of one capture more
abbrev pub HaveIds : {D : Type 0} → List (Step D) → Type 0
HaveIds [] = ⊤
HaveIds (step ∷ steps) = HasIds step.before.book × HaveIds steps

-- which books may be opened behind them, by those that might be before: behind a piece the last book alone
abbrev pub OpensBehind : {D : Type 0} → List (Step D) → Book → (Book → Type 0) → Book → Type 0
OpensBehind [] reached Before x = Before x
OpensBehind (step ∷ steps) reached Before x = SameBook x reached

-- and so at last, by the last book: only a refusal by the disk leaves another one
abbrev pub OpensAtLast : {D : Type 0} → Result ⊤ Stop → List ℕ → Holdings D → Book → (Book → Type 0) → Book → Type 0
OpensAtLast (Err (Piece number pieces.DiskFault)) piece reached last Before x =
    ((last ≡ reached.book) × Before x) ⊎ (SameBook x last ⊎ MayLeave reached.told reached.book piece x)
OpensAtLast other piece reached last Before x = Before x

-- ---- the whole

-- where the disk tells, whatever is told of the book: what stood finished in the volumes stands there still, at whatever moment a crash stops that
abbrev pub KeepsWhatStood : {D : Type 0} → Disks D → Holdings D → Holdings D → Type 0
KeepsWhatStood d was is = IsTrue d.tells → (stood : Stood) → KeepsStood d stood was.journal → KeepsStood d stood is.journal

-- a fault of the disk, or of the dialer, is why no more was taken
abbrev pub is_disk_stop : Result ⊤ Stop → Bool
is_disk_stop (Ok done) = false
is_disk_stop (Err (Source number fault)) = false
is_disk_stop (Err (Piece number fault)) = is_take_fault {T = ℕ} (Err fault)

abbrev pub is_outside_stop : Result ⊤ Stop → Bool
is_outside_stop (Ok done) = false
is_outside_stop (Err (Source number fault)) = is_outside (Err fault)
is_outside_stop (Err (Piece number fault)) = false

module _ {D : Type 0} (d : Disks D) (source : Target) (tells : Bool) where
  -- the source was asked once for the piece of the next capture: that is known where links tell
  abbrev pub AsksNext : Holdings D → Links Transcript → Links Transcript → Result (Option (List ℕ)) SourceFault → Type 0
  AsksNext now before after given = IsTrue tells → Asks source (length (captures now.book)) before after given

  -- each was what the source gave for the next capture, and was taken, behind the one before it
  abbrev pub AreTaken : Holdings D → Links Transcript → List (Step D) → Holdings D → Links Transcript → Type 0
  AreTaken was links_was [] is links_is = (is ≡ was) × (links_is ≡ links_was)
  AreTaken was links_was (step ∷ steps) is links_is =
      (step.before ≡ was) × AsksNext step.before links_was step.links (Ok (Some step.piece))
      × TakesPiece d step.before step.after step.piece (Ok (length (captures step.before.book)))
      × AreTaken step.after step.links steps is links_is

  -- How it ended: the source has no more; it gave none; or what it gave for the next capture was refused.
  abbrev pub EndsBy : Result ⊤ Stop → List ℕ → Holdings D → Links Transcript → Holdings D → Links Transcript → Type 0
  EndsBy (Ok done) piece reached links now links_is = AsksNext reached links links_is (Ok None) × (now ≡ reached)
  EndsBy (Err (Source number fault)) piece reached links now links_is =
      (number ≡ length (captures reached.book)) × AsksNext reached links links_is (Err fault) × (now ≡ reached)
  EndsBy (Err (Piece number fault)) piece reached links now links_is =
      (number ≡ length (captures reached.book)) × AsksNext reached links links_is (Ok (Some piece)) × TakesPiece d reached now piece (Err fault)

  -- Whatever was taken: the book has only grown, limits and what is told stay, each image stands for a book where it did, and no text that stood
  -- finished lost a byte.
  pub record GoesOn (was is : Holdings D) : Type 0 where
    pub grows : Grows was.book is.book
    pub same_limits : is.limits ≡ was.limits
    pub same_told : is.told ≡ was.told
    pub later : (told_of d was).crash.moment ≤ (told_of d is).crash.moment
    pub covered : StaysCovered (told_of d was).crash (told_of d is).crash
    pub kept : KeepsCheckpoints (told_of d was).crash (told_of d is).crash
    pub stands : KeepsWhatStood d was is

  -- The source was followed to its end, or to a stop.
  pub record HasFollowed (was is : Holdings D) (links_was links_is : Links Transcript) (result : Result ⊤ Stop) : Type 0 where
    pub steps : List (Step D)
    pub reached : Holdings D
    pub links : Links Transcript
    pub refused : List ℕ
    pub taken : AreTaken was links_was steps reached links
    pub ends : EndsBy result refused reached links is links_is
    pub goes_on : GoesOn was is
    pub faults : CountsIf (is_disk_stop result) (told_of d was).faults (told_of d is).faults
    -- a book that may be opened since a moment might have been before, or taking one of them may leave it
    pub moves : HaveIds steps → HasIds reached.book
        → Moves (told_of d was).crash (told_of d is).crash (λ x. IsOnWay steps x ⊎ IsOfRefused result refused reached x)
    -- behind the last that was taken no other book may be opened than the last one, but what a refusal by the disk leaves
    pub left : HaveIds steps → HasIds reached.book → (x : Book) → (told_of d is).crash.openings (told_of d is).crash.moment x
        → OpensAtLast result refused reached is.book (OpensBehind steps reached.book (λ b. (told_of d was).crash.openings (told_of d was).crash.moment b)) x

  -- ---- steps

  -- a piece more was taken; or that is how it ended
  abbrev pub TakesNext : Holdings D → Holdings D → Links Transcript → Links Transcript → Result Bool Stop → Type 0
  TakesNext was is links_was links_is (Ok true) =
      (piece : List ℕ) × AsksNext was links_was links_is (Ok (Some piece)) × TakesPiece d was is piece (Ok (length (captures was.book)))
  TakesNext was is links_was links_is (Ok false) = AsksNext was links_was links_is (Ok None) × (is ≡ was)
  TakesNext was is links_was links_is (Err (Source number fault)) =
      (number ≡ length (captures was.book)) × AsksNext was links_was links_is (Err fault) × (is ≡ was)
  TakesNext was is links_was links_is (Err (Piece number fault)) =
      (number ≡ length (captures was.book))
      × ((piece : List ℕ) × AsksNext was links_was links_is (Ok (Some piece)) × TakesPiece d was is piece (Err fault))

  -- however it goes on from here, that is how it went from the start on
  pub record Leads (was now : Holdings D) (links_was links_now : Links Transcript) : Type 0 where
    pub leads : (is : Holdings D) (links_is : Links Transcript) (result : Result ⊤ Stop) → HasFollowed now is links_now links_is result
        → HasFollowed was is links_was links_is result

-- the dialer or the link failed
abbrev pub is_outside_turn : Result Bool Stop → Bool
is_outside_turn (Ok more) = false
is_outside_turn (Err (Source number fault)) = is_outside (Err fault)
is_outside_turn (Err (Piece number fault)) = false
