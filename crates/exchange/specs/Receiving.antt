-- What reading a message from a link leaves.
use Rattle.std.specs.Prelude.{◌≡◌, ◌⊎◌, ℕ, ◌≤◌, Bool, true, false, IsTrue, List, [], ◌++◌, length, Option, None, IsSome, ⊤}
use Rattle.capture.specs.Faults.{Rose}
use Rattle.capture.specs.First.{Side, Message, IsFirst}
use Rattle.http_head.specs.declared.head.WireFault.TheVariants.{EndedEarly}
use Rattle.http_wire.specs.Reading.{Standing, Open, Whole, Failed, IsUndecided, TellsBody, HasFault, EndsInside, ComesBeforeTheEnd}
use Rattle.outside.specs.Link.{Traffic}
use Rattle.exchange.specs.declared.receiving.Came.{Came}
use Rattle.exchange.specs.declared.receiving.Came.TheVariants as came

-- No byte is lost and none is added: where the bytes given were those done and those that weren't, they still are.
abbrev pub StaysAccounted : (given unread given_now unread_now : List ℕ) → Type 0
StaysAccounted given unread given_now unread_now =
    (done : List ℕ) → given ≡ done ++ unread → given_now ≡ done ++ unread_now

-- the whole begins with the front
pub record IsFrontOf (front whole : List ℕ) : Type 0 where
  pub rest : List ℕ
  pub splits : whole ≡ front ++ rest

-- the bytes of a message so far, and those that stand behind them in the window
pub record Input : Type 0 where
  pub stream : List ℕ
  pub window : List ℕ

-- all of them
abbrev pub pending : Input → List ℕ
pending input = input.stream ++ input.window

-- what is read begins with the bytes of the message so far
abbrev pub BeginsAccounted : (given unread given_now stream : List ℕ) → Type 0
BeginsAccounted given unread given_now stream =
    (done : List ℕ) → given ≡ done ++ unread → IsFrontOf (done ++ stream) given_now

-- a message that may be read on: it is open, or is whole in a stream that goes on
abbrev pub MayGoOn : Side → List ℕ → Standing → Type 0
MayGoOn side stream standing =
    (standing ≡ Open) ⊎ ((standing ≡ Whole) × IsFirst side false stream (Message (length stream)))

-- A link has given more, or nothing, and its end was met or not; nothing else of its traffic changed.
abbrev pub Gives : Traffic → Traffic → Type 0
Gives old new = new ≡ record old { given = new.given; ended = new.ended }

-- The bytes that were given are those done, those of the message and those in the window. Behind a message that is refused some may
-- be left that are nobody's.
abbrev pub Accounts : Came → (given : List ℕ) (old : Input) (given_now : List ℕ) (new : Input) → Type 0
Accounts (came.Refused fault) given old given_now new = BeginsAccounted given (pending old) given_now new.stream
Accounts other given old given_now new = StaysAccounted given (pending old) given_now (pending new)

-- what is said of the message so far; where the link ended or failed, or what came is no message, the window is empty
abbrev pub Brings : Side → Came → Input → Standing → Type 0
Brings side came.Head now standing = TellsBody side now.stream × MayGoOn side now.stream standing
Brings side came.Whole now standing = (standing ≡ Whole) × IsFirst side false now.stream (Message (length now.stream))
Brings side came.Ended now standing = now.window ≡ []
Brings side came.EndedInside now standing = (now.window ≡ []) × (standing ≡ Failed EndedEarly) × EndsInside side now.stream
Brings side came.Broken now standing = (now.window ≡ []) × (standing ≡ Open) × IsUndecided side false now.stream
Brings side (came.Refused fault) now standing =
    (now.window ≡ []) × (standing ≡ Failed fault) × HasFault side fault now.stream × ComesBeforeTheEnd fault

-- P, where the answer is that the link ended, and not inside a message
abbrev pub OnEnded : Came → Type 0 → Type 0
OnEnded came.Ended P = P
OnEnded other P = ⊤

-- The head comes once, and the message isn't whole without it. A fault keeps the head that had come; one that comes in
-- place of the answer Head may bring it.
abbrev pub HeadsOnce : {H : Type 0} → Came → Option H → Option H → Type 0
HeadsOnce came.Head old new = (old ≡ None) × IsSome new
HeadsOnce came.Whole old new = IsSome old × (new ≡ old)
HeadsOnce (came.Refused fault) old new = IsSome old → new ≡ old
HeadsOnce other old new = new ≡ old

-- Whether the link's end is met: it is where the link ended, inside a message or not; any other answer meets none, so that an end
-- that is met had been met before.
abbrev pub MeetsEnd : Came → (before now : Bool) → Type 0
MeetsEnd came.Ended before now = now ≡ true
MeetsEnd came.EndedInside before now = now ≡ true
MeetsEnd other before now = IsTrue now → IsTrue before

-- The link counts its fault: the count rises where it failed, and else stays.
abbrev pub CountsCame : ℕ → ℕ → Came → Type 0
CountsCame before now came.Broken = (before ≤ now) × Rose before now
CountsCame before now other = now ≡ before
