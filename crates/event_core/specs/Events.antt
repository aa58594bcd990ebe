-- Steps of the machine, and runs of it.
use Rattle.std.specs.Prelude.{◌≡◌, ℕ, List, [], ◌∷◌, Result, Ok, Err, ⊤}
use Rattle.capture.specs.declared.captured.Brought.{Brought}
use Rattle.capture.specs.declared.captured.Taken.{Taken}
use Rattle.capture.specs.declared.limits.Limits.{Limits}
use Rattle.archive_shelf.specs.Storing.{counts_of}
use Rattle.archive_shelf.specs.declared.fault.BringFault.{BringFault}
use Rattle.archive_shelf.specs.declared.fault.RollFault.{RollFault}
use Rattle.archive_shelf.specs.declared.fault.StoreFault.{StoreFault}
use Rattle.archive_shelf.specs.declared.receipt.Receipt.{Receipt}
use Rattle.time_text.specs.Texts.{InRange}
use Rattle.warc_text.specs.Fits.{Fits}
use Rattle.event_core.specs.Machine.{AreMapped, Brings, IsEither, IsLeftWithin, IsNearestIn, Reopens, Rolls, Settles, State, Stores}
use Rattle.event_core.specs.declared.event.Event.{Event}
use Rattle.event_core.specs.declared.event.Event.TheVariants as events
use Rattle.checkpoint.specs.declared.fault.CheckpointFault.{CheckpointFault}
use Rattle.event_core.specs.declared.reply.EventFault.TheVariants as refusals
use Rattle.event_core.specs.declared.reply.Reply.{Reply}
use Rattle.event_core.specs.declared.reply.Reply.TheVariants as replies

-- ---- a call's answer as a reply

abbrev pub store_reply : Result Receipt StoreFault → Reply
store_reply (Ok receipt) = replies.Stored receipt
store_reply (Err fault) = replies.Refused (refusals.Store fault)

abbrev pub roll_reply : {T : Type 0} → Result T RollFault → Reply
roll_reply (Ok done) = replies.Rolled
roll_reply (Err fault) = replies.Refused (refusals.Roll fault)

abbrev pub bring_reply : Result Brought BringFault → Reply
bring_reply (Ok brought) = replies.Brought brought
bring_reply (Err fault) = replies.Refused (refusals.Bring fault)

abbrev pub settle_reply : Result ℕ CheckpointFault → Reply
settle_reply (Ok written) = replies.Settled written
settle_reply (Err fault) = replies.Refused (refusals.Settle fault)

-- ---- steps

pub record IsStoreStep (limits : Limits) (was : State) (taken : Taken) (reply : Reply) (is : State) : Type 0 where
  pub result : Result Receipt StoreFault
  pub answer : reply ≡ store_reply result
  pub stores : Stores limits was taken result is

pub record IsRollStep (was : State) (now : ℕ) (reply : Reply) (is : State) : Type 0 where
  pub result : Result ⊤ RollFault
  pub answer : reply ≡ roll_reply result
  pub rolls : Rolls was now result is

pub record IsBringStep (was : State) (number : ℕ) (reply : Reply) (is : State) : Type 0 where
  pub result : Result Brought BringFault
  pub answer : reply ≡ bring_reply result
  pub brings : Brings was.book number result
  pub stays : is ≡ was

pub record IsSettleStep (was : State) (reply : Reply) (is : State) : Type 0 where
  pub result : Result ℕ CheckpointFault
  pub answer : reply ≡ settle_reply result
  pub settles : Settles was result is

-- a question by date is answered by the book's entries, or there was no memory
abbrev pub IsFoundIn : State → List ℕ → ℕ → Reply → Type 0
IsFoundIn was key time (replies.Found found) = IsNearestIn was.book key time found
IsFoundIn was key time (replies.Refused (refusals.Query memory)) = ⊤
IsFoundIn was key time (replies.Refused (refusals.Store fault)) = ⊥
IsFoundIn was key time (replies.Refused (refusals.Roll fault)) = ⊥
IsFoundIn was key time (replies.Refused (refusals.Bring fault)) = ⊥
IsFoundIn was key time (replies.Refused (refusals.Settle fault)) = ⊥
IsFoundIn was key time (replies.Stored receipt) = ⊥
IsFoundIn was key time replies.Rolled = ⊥
IsFoundIn was key time (replies.Brought brought) = ⊥
IsFoundIn was key time (replies.Mapped mapped) = ⊥
IsFoundIn was key time (replies.Settled written) = ⊥
IsFoundIn was key time (replies.Reopened counts) = ⊥

abbrev pub IsMappedIn : State → List ℕ → Reply → Type 0
IsMappedIn was key (replies.Mapped mapped) = AreMapped was.book key mapped
IsMappedIn was key (replies.Refused (refusals.Query memory)) = ⊤
IsMappedIn was key (replies.Refused (refusals.Store fault)) = ⊥
IsMappedIn was key (replies.Refused (refusals.Roll fault)) = ⊥
IsMappedIn was key (replies.Refused (refusals.Bring fault)) = ⊥
IsMappedIn was key (replies.Refused (refusals.Settle fault)) = ⊥
IsMappedIn was key (replies.Stored receipt) = ⊥
IsMappedIn was key replies.Rolled = ⊥
IsMappedIn was key (replies.Brought brought) = ⊥
IsMappedIn was key (replies.Found found) = ⊥
IsMappedIn was key (replies.Settled written) = ⊥
IsMappedIn was key (replies.Reopened counts) = ⊥

-- a stop, and what was opened behind it
pub record IsStopStep (was : State) (reply : Reply) (is : State) : Type 0 where
  pub either : IsEither was is.book
  pub reopens : Reopens was is
  pub answer : reply ≡ replies.Reopened (counts_of is.book)

pub record IsStopWithinStep (limits : Limits) (was : State) (taken : Taken) (reply : Reply) (is : State) : Type 0 where
  pub left : IsLeftWithin limits was taken is.book
  pub reopens : Reopens was is
  pub answer : reply ≡ replies.Reopened (counts_of is.book)

-- one event
abbrev pub Steps : Limits → State → Event → Reply → State → Type 0
Steps limits was (events.Store taken) reply is = IsStoreStep limits was taken reply is
Steps limits was (events.Roll now) reply is = IsRollStep was now reply is
Steps limits was (events.Bring number) reply is = IsBringStep was number reply is
Steps limits was (events.ByDate key time) reply is = IsFoundIn was key time reply × (is ≡ was)
Steps limits was (events.Map key) reply is = IsMappedIn was key reply × (is ≡ was)
Steps limits was events.Settle reply is = IsSettleStep was reply is
Steps limits was (events.Stop choice) reply is = IsStopStep was reply is
Steps limits was (events.StopWithin taken calls choice) reply is = IsStopWithinStep limits was taken reply is

-- one after the other
abbrev pub Runs : Limits → State → List Event → List Reply → State → Type 0
Runs limits was [] [] is = is ≡ was
Runs limits was (event ∷ events) (reply ∷ replies) is =
    (next : State) × Steps limits was event reply next × Runs limits next events replies is
Runs limits was [] (reply ∷ replies) is = ⊥
Runs limits was (event ∷ events) [] is = ⊥

-- what an event's argument is asked to meet
abbrev pub CanCome : Event → Type 0
CanCome (events.Store taken) = Fits taken
CanCome (events.Roll now) = InRange now
CanCome (events.Bring number) = ⊤
CanCome (events.ByDate key time) = ⊤
CanCome (events.Map key) = ⊤
CanCome events.Settle = ⊤
CanCome (events.Stop choice) = ⊤
CanCome (events.StopWithin taken calls choice) = Fits taken
