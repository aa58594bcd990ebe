-- Which books an opening may give, at whatever moment a crash stops a call. All are relations: nothing of them is stored.
use Rattle.std.specs.Prelude.{◌≡◌, ◌⊎◌, ℕ, ◌+◌, ◌≤◌, List, [], length, Option, Some}
use Rattle.capture.specs.Captures.{captures}
use Rattle.capture.specs.declared.book.Book.{Book}
use Rattle.capture.specs.declared.captured.Stored.{Stored}
use Rattle.capture.specs.declared.captured.Taken.{Taken}
use Rattle.disk_model.specs.Image.{Image}
use Rattle.warc_journal.specs.Extents.{warc_files}
use Rattle.warc_journal.specs.Texts.{AreJust}
use Rattle.warc_text.specs.Books.{AreVolumeTexts}
use Rattle.warc_text.specs.Groups.{IdsDiffer}
use Rattle.warc_text.specs.Sound.{IsSound}
use Rattle.warc_text.specs.StandsFor.{StandsFor}
use Rattle.archive_shelf.specs.Contents.{Contents}
use Rattle.archive_shelf.specs.Storing.{Storing, stored_by, with_capture, with_volume}

-- the same book; those without volumes are one, whatever their namespaces
abbrev pub SameBook : Book → Book → Type 0
SameBook a b = (a ≡ b) ⊎ ((a.volumes ≡ []) × (b.volumes ≡ []))

-- the ids of the book's responses differ, and that of one more
abbrev pub HasIds : Book → Type 0
HasIds book = IdsDiffer book.namespace (length (captures book) + 1)

-- the image stands for a sound book
pub record ImageStandsFor (image : Image) (book : Book) : Type 0 where
  pub for : StandsFor (warc_files image) book
  pub sound : IsSound book

-- the files of the volumes are just the texts of the book, but for one empty file more
abbrev pub HasJust : Image → Book → Type 0
HasJust image book = (texts : List (List ℕ)) × AreVolumeTexts book texts × AreJust texts (warc_files image)

-- a book, or that with a new volume, with one more capture, or with both
pub record IsNext (book x : Book) : Type 0 where
  pub room : Book
  pub roomy : SameBook room book ⊎ ((born : ℕ) × (room ≡ with_volume book born))
  pub is : SameBook x room ⊎ ((stored : Stored) × (x ≡ with_capture room stored))

-- What a crash may leave, at a moment, as far as it is told: the moment, as a number that doesn't fall; that an image since a moment
-- stands for a sound book; that each image since a moment does; and that a crash now may leave these files of checkpoints.
pub record CrashStates : Type 1 where
  pub moment : ℕ
  pub openings : ℕ → Book → Type 0
  pub covered : ℕ → Type 0
  pub checkpoints : List (List ℕ) → Type 0

-- a book that may be opened since a moment up to the call's start might have been before the call, or is allowed
abbrev pub Moves : CrashStates → CrashStates → (Book → Type 0) → Type 0
Moves was is Allowed = (t : ℕ) (x : Book) → t ≤ was.moment → is.openings t x → was.openings t x ⊎ Allowed x

-- a book that may be opened now might have been before the call, or is this one
abbrev pub Keeps : CrashStates → CrashStates → Book → Type 0
Keeps was is book = (x : Book) → is.openings is.moment x → was.openings was.moment x ⊎ SameBook x book

-- only this book may be opened now, and the other, if there is one
abbrev pub IsState : CrashStates → Book → Option Book → Type 0
IsState now book other = (x : Book) → now.openings now.moment x → SameBook x book ⊎ (other ≡ Some x)

-- only such a book may be opened now that is next to this one
abbrev pub OpensNext : CrashStates → Book → Type 0
OpensNext now book = (x : Book) → now.openings now.moment x → IsNext book x

-- where each image since a moment up to the call's start stood for a book, each does
abbrev pub StaysCovered : CrashStates → CrashStates → Type 0
StaysCovered was is = (t : ℕ) → t ≤ was.moment → was.covered t → is.covered t

-- a crash leaves no files of checkpoints but those that it might have left before the call
abbrev pub KeepsCheckpoints : CrashStates → CrashStates → Type 0
KeepsCheckpoints was is = (files : List (List ℕ)) → is.checkpoints files → was.checkpoints files

-- Nothing more may be left: nothing was written.
pub record LeavesNoMore (was is : CrashStates) : Type 0 where
  pub later : was.moment ≤ is.moment
  pub moves : Moves was is (λ x. ⊥)
  pub covered : StaysCovered was is
  pub kept : KeepsCheckpoints was is

-- a book that may be opened since a moment may be since an earlier one
abbrev pub IsEarlier : CrashStates → Type 0
IsEarlier now = (t s : ℕ) (book : Book) → t ≤ s → now.openings s book → now.openings t book

-- A store that the disk refused. Either the book stayed, and what might have been opened before the call may be still. Or
-- one other book may be opened beside the one that is seen: that with the volume, or that with the capture.
abbrev pub IsRefused : CrashStates → CrashStates → Contents → Contents → Taken → Type 0
IsRefused old new was is taken =
    ((is.seen ≡ was.seen) × Keeps old new was.seen)
    ⊎ ((storing : Storing was.limits.volume_bytes was.seen taken)
    × (IsState new is.seen (Some storing.unfilled) ⊎ IsState new is.seen (Some (stored_by storing))))

-- storing the capture may leave this book, wherever it is stopped: the one before, that with the volume which the capture
-- needs, or that with the capture
abbrev pub MayLeave : (limit : ℕ) → Book → Taken → Book → Type 0
MayLeave limit was taken x =
    SameBook x was
    ⊎ ((storing : Storing limit was taken) × ((x ≡ storing.unfilled) ⊎ (x ≡ stored_by storing)))
