-- What a piece that was taken, or refused by the disk, leaves from before it was looked at.
use Rattle.std.proofs.Common.{◌≡◌, ◌≢◌, ◌⊎◌, ℕ, ◌+◌, true, false, IsTrue, List, [], ◌∷◌, ◌++◌, length, Option, Some, None, refl, ap, ◌∙◌, inl, inr, ⊎_elim, arith, length-append}
use Rattle.archive_core.specs.Holdings.{Holdings}
use Rattle.archive_shelf.proofs.StoringLaws.{captures_more, captures_stay}
use Rattle.archive_shelf.specs.Contents.{Contents}
use Rattle.archive_shelf.specs.Storing.{new_volume, with_capture}
use Rattle.archive_volumes.specs.Held.{is_filled}
use Rattle.archive_volumes.specs.Volumes.{muted}
use Rattle.archive_volumes.specs.Writing.{Writes, books_as}
use Rattle.capture.specs.Captures.{captures}
use Rattle.capture.specs.declared.book.Book.{Book}
use Rattle.capture.specs.declared.book.Volume.{Volume}
use Rattle.capture.specs.declared.captured.Stored.{Stored}
use Rattle.disk_model.specs.declared.disk.Disk.{Ghosts as Disks}
use Rattle.replica.specs.Following.{IsRoomFor}
use Rattle.archive_pieces.specs.NextPieces.{IsFrontBy, Takes}
use Rattle.archive_pieces.specs.PieceParts.{room_by}
use Rattle.archive_gathering.specs.Noting.{referring}
use Rattle.archive_taking.specs.TakingPieces.{HasTaken, IsUntaken}
use Rattle.archive_taking.specs.steps.Taking.{disk_failed, took}
use Rattle.warc_journal.specs.Journals.{disk_of}

-- ---- the book

room_for : (book : Book) (bytes front rest : List ℕ) (begins : Option ℕ) → bytes ≡ front ++ rest → IsFrontBy book front begins
    → IsRoomFor book bytes (room_by book begins)
room_for book bytes front rest None composed is = inl refl
room_for book bytes front rest (Some born) composed is = inr (record {
  born = born;
  date = is.1;
  volume = refl;
  rest = rest;
  begins = composed ∙ ap (λ (f : List ℕ). f ++ rest) is.2;
})

no_true : false ≡ true → ⊥
no_true e = cc

some_volumes : (volumes : List Volume) → is_filled volumes ≡ true → volumes ≢ []
some_volumes [] filled = absurd (no_true filled)
some_volumes (v ∷ vs) filled = λ e. cc

some_by : (volumes : List Volume) (number : ℕ) → number + 1 ≡ length volumes → volumes ≢ []
some_by [] number is = absurd (omega (arith, is))
some_by (v ∷ vs) number is = λ e. cc

some_behind : (volumes : List Volume) (v : Volume) → volumes ++ v ∷ [] ≢ []
some_behind [] v = λ e. cc
some_behind (w ∷ ws) v = λ e. cc

one_more_in : (book : Book) (front : List ℕ) (begins : Option ℕ) (stored : Stored) → IsFrontBy book front begins
    → length (captures (with_capture (room_by book begins) stored)) ≡ length (captures book) + 1
one_more_in book front None stored is =
    let some : book.volumes ≢ [] = ⊎_elim (λ filled. some_volumes book.volumes filled.0) (λ empty. some_by book.volumes empty.number empty.last) is in
    let more = ap (λ (l : List Stored). length l) (captures_more book.volumes stored some) in
    let long = length-append (captures book) (stored ∷ []) in
    omega (arith, more, long)
one_more_in book front (Some born) stored is =
    let more = ap (λ (l : List Stored). length l)
    (captures_more (book.volumes ++ new_volume born ∷ []) stored (some_behind book.volumes (new_volume born))) in
    let same = ap (λ (l : List Stored). length l) (captures_stay book.volumes born) in
    let long = length-append (captures (room_by book (Some born))) (stored ∷ []) in
    omega (arith, more, same, long)

-- ---- what is left

-- a piece that was taken, as a call that writes from before it was looked at
pub record IsTakenSo {D : Type 0} (d : Disks D) (was is : Holdings D) (bytes : List ℕ) (number : ℕ) : Type 0 where
  pub room : Book
  pub roomy : IsRoomFor was.book bytes room
  pub stored : Stored
  pub gained : is.book ≡ with_capture room stored
  pub count : length (captures is.book) ≡ length (captures was.book) + 1
  pub takes : IsTrue was.told → Takes was.book bytes is.book
  pub same_told : is.told ≡ was.told
  pub limits : is.limits ≡ was.limits
  pub writes : Writes (muted was.told d) (disk_of was.journal) (disk_of is.journal) (books_as was.book room is.book is.book) (took number)

pub record IsUntakenSo {D : Type 0} (d : Disks D) (was is : Holdings D) (bytes : List ℕ) : Type 0 where
  pub room : Book
  pub roomy : IsRoomFor was.book bytes room
  pub after : Book
  pub takes : IsTrue was.told → Takes was.book bytes after
  pub left : (is.book ≡ was.book) ⊎ (is.book ≡ room)
  pub same_told : is.told ≡ was.told
  pub limits : is.limits ≡ was.limits
  pub writes : Writes (muted was.told d) (disk_of was.journal) (disk_of is.journal) (books_as was.book room after is.book) disk_failed

-- what is told stays
pub still_told : {D : Type 0} (d : Disks D) (was is : Holdings D) (bytes : List ℕ) (number : ℕ) → HasTaken d was is bytes number → is.told ≡ was.told
still_told {D} d was is bytes number t = ap (λ (c : Contents). c.tells) t.put.others

pub taken_so : {D : Type 0} (d : Disks D) (was is : Holdings D) (bytes : List ℕ) (number : ℕ) → HasTaken d was is bytes number → IsTakenSo d was is bytes number
taken_so {D} d was is bytes number t =
    let stored : Stored = referring t.group.stored t.first in
    record {
      room = room_by was.book t.begins;
      roomy = room_for was.book bytes t.read.front t.read.text t.begins t.read.composed t.read.is_front;
      stored = stored;
      gained = t.put.book;
      count = ap (λ (b : Book). length (captures b)) t.put.book ∙ one_more_in was.book t.read.front t.begins stored t.read.is_front;
      takes = t.takes;
      same_told = still_told d was is bytes number t;
      limits = ap (λ (c : Contents). c.limits) t.put.others;
      writes = t.put.writes;
    }

pub untaken_so : {D : Type 0} (d : Disks D) (was is : Holdings D) (bytes : List ℕ) → IsUntaken d was is bytes → IsUntakenSo d was is bytes
untaken_so {D} d was is bytes u = record {
  room = room_by was.book u.begins;
  roomy = room_for was.book bytes u.read.front u.read.text u.begins u.read.composed u.read.is_front;
  after = with_capture (room_by was.book u.begins) (referring u.group.stored u.first);
  takes = u.takes;
  left = u.unput.left;
  same_told = ap (λ (c : Contents). c.tells) u.unput.others;
  limits = ap (λ (c : Contents). c.limits) u.unput.others;
  writes = u.unput.writes;
}
