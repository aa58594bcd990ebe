-- The captures that replies acknowledged, and that they stay.
use Rattle.std.specs.Prelude.{◌≡◌, ◌⊎◌, ℕ, ◌+◌, ◌≤◌, List, [], ◌∷◌, ◌++◌, Some, slice_get, ⊤}
use Rattle.capture.specs.Captures.{captures}
use Rattle.capture.specs.declared.book.Book.{Book}
use Rattle.capture.specs.declared.captured.Stored.{Stored}
use Rattle.capture.specs.declared.captured.Taken.{Taken}
use Rattle.capture.specs.declared.limits.Limits.{Limits}
use Rattle.archive_shelf.specs.Storing.{as_stored}
use Rattle.event_core.specs.Events.{Runs}
use Rattle.event_core.specs.Machine.{State}
use Rattle.event_core.specs.declared.event.Event.{Event}
use Rattle.event_core.specs.declared.event.Event.TheVariants as events
use Rattle.event_core.specs.declared.reply.Reply.{Reply}
use Rattle.event_core.specs.declared.reply.Reply.TheVariants as replies

-- a capture that was acknowledged, under its number
pub record Acknowledged : Type 0 where
  pub number : ℕ
  pub stored : Stored

-- what a reply to a store acknowledges
abbrev pub stored_by_reply : Taken → Reply → List Acknowledged
stored_by_reply taken (replies.Stored receipt) = record { number = receipt.number; stored = as_stored taken receipt.same_as } ∷ []
stored_by_reply taken replies.Rolled = []
stored_by_reply taken (replies.Brought brought) = []
stored_by_reply taken (replies.Found found) = []
stored_by_reply taken (replies.Mapped mapped) = []
stored_by_reply taken (replies.Settled written) = []
stored_by_reply taken (replies.Reopened counts) = []
stored_by_reply taken (replies.Refused fault) = []

abbrev pub acknowledged_by : Event → Reply → List Acknowledged
acknowledged_by (events.Store taken) reply = stored_by_reply taken reply
acknowledged_by (events.Roll now) reply = []
acknowledged_by (events.Bring number) reply = []
acknowledged_by (events.ByDate key time) reply = []
acknowledged_by (events.Map key) reply = []
acknowledged_by events.Settle reply = []
acknowledged_by (events.Stop choice) reply = []
acknowledged_by (events.StopWithin taken calls choice) reply = []

-- what the replies to events acknowledge, in order
abbrev pub acknowledged : List Event → List Reply → List Acknowledged
acknowledged [] replies = []
acknowledged (event ∷ events) [] = []
acknowledged (event ∷ events) (reply ∷ replies) = acknowledged_by event reply ++ acknowledged events replies

-- they stand among the captures under their numbers, from one on, in order
abbrev pub StandFrom : ℕ → List Stored → List Acknowledged → Type 0
StandFrom from all [] = ⊤
StandFrom from all (first ∷ others) =
    (from ≤ first.number) × (slice_get all first.number ≡ Some first.stored) × StandFrom (first.number + 1) all others

-- they stand in the book, and in the one that an opening may give in its place
pub record StandIn (was : State) (list : List Acknowledged) : Type 0 where
  pub book : StandFrom 0 (captures was.book) list
  pub other : (book : Book) → was.other ≡ Some book → StandFrom 0 (captures book) list

-- Each capture that a reply acknowledged stands in the book that a run leaves, in order, and in the one that an opening may give in
-- its place. Each beginning of a run is one, so it stands in every later book.
abbrev pub AcknowledgedStay : Type 0
AcknowledgedStay =
    (limits : Limits) (was is : State) (events : List Event) (replies : List Reply) → Runs limits was events replies is
    → StandIn is (acknowledged events replies)

-- the captures of one book are those of another, and at most one more behind them
abbrev pub HasOneMoreAtMost : Book → Book → Type 0
HasOneMoreAtMost book other = (captures other ≡ captures book) ⊎ ((stored : Stored) × (captures other ≡ captures book ++ stored ∷ []))

-- the other book of a state, if there is one, has one capture more at most
abbrev pub HasOneMoreIn : State → Type 0
HasOneMoreIn was = (book : Book) → was.other ≡ Some book → HasOneMoreAtMost was.book book

-- It is so in each state that a run leaves, where it was so at first.
abbrev pub OtherHasOneMore : Type 0
OtherHasOneMore =
    (limits : Limits) (was is : State) (events : List Event) (replies : List Reply) → HasOneMoreIn was
    → Runs limits was events replies is → HasOneMoreIn is
