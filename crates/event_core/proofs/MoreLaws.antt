-- The other book that an opening may give has one capture more at most.
use Rattle.std.proofs.Common.{◌≡◌, ℕ, Bool, true, false, if◌then◌else◌, List, [], ◌∷◌, ◌++◌, Some, None, Result, Ok, Err, sym, ap, subst, ◌∙◌, inl, inr, ⊎_elim}
use Rattle.std.proofs.lemmas.Option.{same_Some}
use Rattle.capture.specs.Captures.{captures}
use Rattle.capture.specs.declared.book.Book.{Book}
use Rattle.capture.specs.declared.captured.Stored.{Stored}
use Rattle.capture.specs.declared.captured.Taken.{Taken}
use Rattle.capture.specs.declared.limits.Limits.{Limits}
use Rattle.archive_shelf.specs.Storing.{Storing, as_stored, rolled, stored_by}
use Rattle.archive_shelf.specs.declared.fault.RollFault.{RollFault}
use Rattle.archive_shelf.specs.declared.fault.RollFault.TheVariants as rolls
use Rattle.archive_shelf.specs.declared.fault.StoreFault.{StoreFault}
use Rattle.archive_shelf.specs.declared.fault.StoreFault.TheVariants as stores
use Rattle.archive_shelf.specs.declared.receipt.Receipt.{Receipt}
use Rattle.archive_volumes.specs.Held.{is_filled}
use Rattle.checkpoint.specs.declared.fault.CheckpointFault.{CheckpointFault}
use Rattle.event_core.proofs.AcknowledgedLaws.{rolled_stay, stored_behind, unfilled_stay}
use Rattle.event_core.specs.Acknowledged.{HasOneMoreAtMost, HasOneMoreIn, OtherHasOneMore}
use Rattle.event_core.specs.Events.{Steps}
use Rattle.event_core.specs.Machine.{LeavesPart, Rolls, Settles, State, StaysRefused, Stores, sealed}
use Rattle.event_core.specs.declared.event.Event.{Event}
use Rattle.event_core.specs.declared.event.Event.TheVariants as events
use Rattle.event_core.specs.declared.reply.Reply.{Reply}

-- ---- states

-- there is no other book
none_more : (is : State) → is.other ≡ None → HasOneMoreIn is
none_more is none book some = let bad : ⊥ = no_some (sym none ∙ some) in absurd bad
  where
    no_some : None ≡ Some book → ⊥
    no_some e = cc

-- or it is this one
some_more : (is : State) (one : Book) → is.other ≡ Some one → HasOneMoreAtMost is.book one → HasOneMoreIn is
some_more is one other more book some = subst (HasOneMoreAtMost is.book) (same_Some one book (sym other ∙ some)) more

-- the book and the other one stayed
same_more : (was is : State) → is.book ≡ was.book → is.other ≡ was.other → HasOneMoreIn was → HasOneMoreIn is
same_more was is same other more book some =
    subst (λ (b : Book). HasOneMoreAtMost b book) (sym same) (more book (sym other ∙ some))

in_state : (was is : State) → is ≡ was → HasOneMoreIn was → HasOneMoreIn is
in_state was is same more = subst HasOneMoreIn (sym same) more

-- with the same captures, or one more
stays_more : (book other base : Book) → captures book ≡ captures base → captures other ≡ captures base → HasOneMoreAtMost book other
stays_more book other base same too = inl (too ∙ sym same)

gains_more : (book other base : Book) (stored : Stored) → captures book ≡ captures base → captures other ≡ captures base ++ stored ∷ []
    → HasOneMoreAtMost book other
gains_more book other base stored same gained =
    inr (stored, gained ∙ ap (λ (all : List Stored). all ++ stored ∷ []) (sym same))

-- ---- steps

part_more : {limit : ℕ} {taken : Taken} (was : State) (storing : Storing limit was.book taken) (is : State) → LeavesPart was storing is → HasOneMoreIn is
part_more {limit} {taken} was storing is left =
    let book : captures is.book ≡ captures was.book = ⊎_elim
    (λ same. ap captures same)
    (λ more. ap captures more ∙ unfilled_stay storing)
    left.book in
    ⊎_elim
    (λ none. none_more is none)
    (λ some. ⊎_elim
    (λ volume. some_more is storing.unfilled volume (stays_more is.book storing.unfilled was.book book (unfilled_stay storing)))
    (λ stored. some_more is (stored_by storing) stored
    (gains_more is.book (stored_by storing) was.book (as_stored taken storing.same) book (stored_behind storing)))
    some)
    left.other

refused_more : (was is : State) → StaysRefused was is → HasOneMoreIn was → HasOneMoreIn is
refused_more was is left more = ⊎_elim
    (λ same. same_more was is (ap (λ (s : State). s.book) left.left) same more)
    (λ none. none_more is none)
    left.other

stores_more : (limits : Limits) (was is : State) (taken : Taken) (result : Result Receipt StoreFault) → HasOneMoreIn was
    → Stores limits was taken result is → HasOneMoreIn is
stores_more limits was is taken (Ok receipt) more h = none_more is (ap (λ (s : State). s.other) h.left)
stores_more limits was is taken (Err (stores.Full count limit)) more h = in_state was is h.3 more
stores_more limits was is taken (Err stores.DiskFault) more h = ⊎_elim
    (λ stays. refused_more was is stays more)
    (λ part. part_more was part.0 is part.1)
    h.1
stores_more limits was is taken (Err (stores.Damaged number kept found)) more h = absurd h
stores_more limits was is taken (Err stores.Memory) more h = in_state was is h more

rolls_more : {T : Type 0} (was is : State) (now : ℕ) (result : Result T RollFault) → HasOneMoreIn was → Rolls was now result is → HasOneMoreIn is
rolls_more was is now (Ok done) more h = by (is_filled was.book.volumes) h
  where
    by : (b : Bool) → is ≡ (if b then record was { book = rolled was.book now; other = None } else was) → HasOneMoreIn is
    by true e = none_more is (ap (λ (s : State). s.other) e)
    by false e = in_state was is e more
rolls_more was is now (Err rolls.DiskFault) more h =
    let book : is.book ≡ was.book = ap (λ (s : State). s.book) h.left in
    ⊎_elim
    (λ same. same_more was is book same more)
    (λ some. ⊎_elim
    (λ none. none_more is none)
    (λ volume. some_more is (rolled was.book now) volume
    (stays_more is.book (rolled was.book now) was.book (ap captures book) (rolled_stay was.book now h.filled)))
    some)
    h.other
rolls_more was is now (Err rolls.Memory) more h = in_state was is h more

settles_more : (was is : State) (result : Result ℕ CheckpointFault) → HasOneMoreIn was → Settles was result is → HasOneMoreIn is
settles_more was is (Ok written) more h = in_state (record was { settled = sealed was.book }) is h.1 more
settles_more was is (Err fault) more h = in_state (record was { settled = is.settled }) is h.2 more

steps_more : (limits : Limits) (was is : State) (event : Event) (reply : Reply) → HasOneMoreIn was → Steps limits was event reply is → HasOneMoreIn is
steps_more limits was is (events.Store taken) reply more step = stores_more limits was is taken step.result more step.stores
steps_more limits was is (events.Roll now) reply more step = rolls_more was is now step.result more step.rolls
steps_more limits was is (events.Bring number) reply more step = in_state was is step.stays more
steps_more limits was is (events.ByDate key time) reply more step = in_state was is step.1 more
steps_more limits was is (events.Map key) reply more step = in_state was is step.1 more
steps_more limits was is events.Settle reply more step = settles_more was is step.result more step.settles
steps_more limits was is (events.Stop choice) reply more step = none_more is step.reopens.other
steps_more limits was is (events.StopWithin taken calls choice) reply more step = none_more is step.reopens.other

-- ---- runs

pub one_more : OtherHasOneMore
one_more limits was is [] [] more run = in_state was is run more
one_more limits was is (event ∷ events) (reply ∷ replies) more run =
    one_more limits run.0 is events replies (steps_more limits was run.0 event reply more run.1) run.2
one_more limits was is [] (reply ∷ replies) more run = absurd run
one_more limits was is (event ∷ events) [] more run = absurd run
