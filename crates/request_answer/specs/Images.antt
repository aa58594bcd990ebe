-- Which books a stop may leave, while a connection is served over an archive alone.
use Rattle.std.specs.Prelude.{◌≡◌, ◌≢◌, ◌⊎◌, ◌≤◌, List, [], ◌∷◌, Contains, IsTrue, ⊤}
use Rattle.archive_shelf.specs.Openings.{SameBook, HasIds, Moves, StaysCovered, MayLeave}
use Rattle.archive_shelf.specs.Storing.{Storing, stored_by}
use Rattle.archive_shelf.specs.Told.{Told}
use Rattle.capture.specs.declared.book.Book.{Book}
use Rattle.capture.specs.declared.refusal.Refusal.TheVariants.{DiskFault}
use Rattle.http_head.specs.declared.head.Received.{Received}
use Rattle.warc_journal.specs.Extents.{cdxj_files}
use Rattle.request_answer.specs.Exchanges.{Exchange, Fails, Passes, HasRoom, taken_of}
use Rattle.request_answer.specs.Rounds.{Outcome, Exchanged, Round}
use Rattle.request_answer.specs.Traces.{Terms, Traces}

-- what a round did to the archive: nothing, it stored the capture of an exchange, or the disk refused that
pub data Deed : Type 0 where
  NoDeed : Deed
  Stores : (e : Exchange) (received : Received) → Deed
  IsDenied : (e : Exchange) → Deed

-- a store alone is refused by the disk and may leave something
abbrev pub deed_of : Outcome → Deed
deed_of (Exchanged e (Fails DiskFault)) = IsDenied e
deed_of (Exchanged e (Passes received payload)) = Stores e received
deed_of other = NoDeed

-- one of the rounds may leave the book, where storing the capture of its exchange, or the store that the disk refused, is stopped anywhere
abbrev pub IsPassed : Terms → List Round → Book → Type 0
IsPassed terms [] x = ⊥
IsPassed terms (r ∷ rounds) x =
    ((e : Exchange) × (room : HasRoom terms e r.traces) × ((deed_of r.outcome ≡ Stores e room.received) ⊎ (deed_of r.outcome ≡ IsDenied e))
    × MayLeave terms.limits.volume_bytes r.traces.before.book (taken_of e room.fetched.date room.received) x)
    ⊎ IsPassed terms rounds x

-- Which books may be opened behind a round, by those that might be before: behind a store that one alone. Behind a store that the
-- disk refused also what might be opened before it, where the book stayed, and what it may have left: the capture may be there, or
-- the volume that it needs.
abbrev pub OpensBehind : Terms → Traces → Deed → (Book → Type 0) → Book → Type 0
OpensBehind terms traces NoDeed Before x = Before x
OpensBehind terms traces (Stores e received) Before x = SameBook x traces.after.book
OpensBehind terms traces (IsDenied e) Before x =
    ((traces.after.book ≡ traces.before.book) × Before x)
    ⊎ SameBook x traces.after.book
    ⊎ ((room : HasRoom terms e traces)
    × (storing : Storing terms.limits.volume_bytes traces.before.book (taken_of e room.fetched.date room.received))
    × ((x ≡ storing.unfilled) ⊎ (x ≡ stored_by storing)))

-- and behind rounds
abbrev pub OpensAtLast : Terms → (Book → Type 0) → List Round → Book → Type 0
OpensAtLast terms Before [] x = Before x
OpensAtLast terms Before (r ∷ rounds) x = OpensAtLast terms (OpensBehind terms r.traces (deed_of r.outcome) Before) rounds x

-- the ids of the captures of each book on the way differ, and that of one more, where a round may add to it
abbrev pub HasAllIds : List Round → Type 0
HasAllIds [] = ⊤
HasAllIds (r ∷ rounds) = (deed_of r.outcome ≢ NoDeed → HasIds r.traces.before.book) × HasAllIds rounds

-- What images do while rounds are served. Where nothing is written a read of the disk gives what it gave, and in any case the
-- checkpoints that it gave. Where the ids differ, a book that may be opened since a moment might be before the first round, or one
-- of them may leave it; and those that may be opened at last are told by the rounds in their order.
pub record KeepsImages (terms : Terms) (rounds : List Round) (was is : Told) : Type 0 where
  pub later : was.crash.moment ≤ is.crash.moment
  pub covered : StaysCovered was.crash is.crash
  pub reading : IsTrue terms.alone → IsTrue terms.tells → ((r : Round) → Contains rounds r → deed_of r.outcome ≡ NoDeed)
      → is.reading ≡ was.reading
  pub checkpoints : IsTrue terms.alone → IsTrue terms.tells → cdxj_files is.reading ≡ cdxj_files was.reading
  pub opened : IsTrue terms.alone → HasAllIds rounds → Moves was.crash is.crash (IsPassed terms rounds)
  pub left : IsTrue terms.alone → IsTrue terms.tells → HasAllIds rounds
      → (x : Book) → is.crash.openings is.crash.moment x
      → OpensAtLast terms (λ b. was.crash.openings was.crash.moment b) rounds x
