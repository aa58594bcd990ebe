-- The captures that replies acknowledged stay, whatever events come.
use Rattle.std.proofs.Common.{◌≡◌, ℕ, zero, suc, ◌+◌, ◌<◌, ◌≤◌, Bool, true, false, if◌then◌else◌, List, [], ◌∷◌, ◌++◌, length, Option, Some, None, Result, Ok, Err, refl, sym, ap, subst, ◌∙◌, ⊎_elim, arith, append-nil, append_assoc}
use Rattle.std.specs.Prelude.{slice_get, not, nat_eq}
use Rattle.std.proofs.lemmas.Option.{same_Some, slice_get_within}
use Rattle.capture.specs.Captures.{captures, captures_in}
use Rattle.capture.specs.declared.book.Book.{Book}
use Rattle.capture.specs.declared.book.Volume.{Volume}
use Rattle.capture.specs.declared.captured.Stored.{Stored}
use Rattle.capture.specs.declared.captured.Taken.{Taken}
use Rattle.capture.specs.declared.limits.Limits.{Limits}
use Rattle.archive_shelf.proofs.StoringLaws.{captures_stay, gains_stand_behind, storing_gains}
use Rattle.archive_shelf.specs.Storing.{Storing, as_stored, new_volume, rolled, rolled_in, stored_by}
use Rattle.archive_shelf.specs.declared.fault.RollFault.{RollFault}
use Rattle.archive_shelf.specs.declared.fault.RollFault.TheVariants as rolls
use Rattle.archive_shelf.specs.declared.fault.StoreFault.{StoreFault}
use Rattle.archive_shelf.specs.declared.fault.StoreFault.TheVariants as stores
use Rattle.archive_shelf.specs.declared.receipt.Receipt.{Receipt}
use Rattle.archive_volumes.specs.Held.{is_filled}
use Rattle.event_core.specs.Acknowledged.{Acknowledged, AcknowledgedStay, StandFrom, StandIn, acknowledged, acknowledged_by, stored_by_reply}
use Rattle.event_core.specs.Events.{Runs, Steps, store_reply}
use Rattle.event_core.specs.Machine.{IsEither, IsLeftWithin, IsStored, LeavesPart, Reopens, Rolls, Settles, State, StaysRefused, Stores, sealed}
use Rattle.event_core.specs.declared.event.Event.{Event}
use Rattle.event_core.specs.declared.event.Event.TheVariants as events
use Rattle.checkpoint.specs.declared.fault.CheckpointFault.{CheckpointFault}
use Rattle.event_core.specs.declared.reply.Reply.{Reply}

-- ---- lists

get_later : (xs ys : List Stored) (k : ℕ) (x : Stored) → slice_get xs k ≡ Some x → slice_get (xs ++ ys) k ≡ Some x
get_later [] ys k x e = cc
get_later (y ∷ xs) ys zero x e = e
get_later (y ∷ xs) ys (suc k) x e = get_later xs ys k x e

get_last : (xs : List Stored) (x : Stored) → slice_get (xs ++ x ∷ []) (length xs) ≡ Some x
get_last [] x = refl
get_last (y ∷ xs) x = get_last xs x

stand_more : (from : ℕ) (all more : List Stored) (list : List Acknowledged) → StandFrom from all list → StandFrom from (all ++ more) list
stand_more from all more [] stand = tt
stand_more from all more (first ∷ others) stand = (
  stand.0,
  get_later all more first.number first.stored stand.1,
  stand_more (first.number + 1) all more others stand.2,
)

stand_push : (from : ℕ) (all : List Stored) (list : List Acknowledged) (next : Acknowledged) → next.number ≡ length all → from ≤ length all
    → StandFrom from all list → StandFrom from (all ++ next.stored ∷ []) (list ++ next ∷ [])
stand_push from all [] next is le stand = (
  omega (arith, is, le),
  ap (λ (k : ℕ). slice_get (all ++ next.stored ∷ []) k) is ∙ get_last all next.stored,
  tt,
)
stand_push from all (first ∷ others) next is le stand =
    let less : first.number < length all = slice_get_within all first.number first.stored stand.1 in (
      stand.0,
      get_later all (next.stored ∷ []) first.number first.stored stand.1,
      stand_push (first.number + 1) all others next is (omega (arith, less)) stand.2,
    )

-- ---- books

stay_filled : (volumes : List Volume) (now : ℕ) → is_filled volumes ≡ true → captures_in (rolled_in volumes now) ≡ captures_in volumes
stay_filled [] now filled = cc
stay_filled (last ∷ []) now filled = by (nat_eq (length last.captures) 0) filled
  where
    by : (b : Bool) → not b ≡ true → captures_in (if b then last ∷ [] else last ∷ new_volume now ∷ []) ≡ captures_in (last ∷ [])
    by true e = cc
    by false e = refl
stay_filled (first ∷ next ∷ others) now filled =
    ap (λ (behind : List Stored). first.captures ++ behind) (stay_filled (next ∷ others) now filled)

-- a roll leaves the captures
pub rolled_stay : (book : Book) (now : ℕ) → is_filled book.volumes ≡ true → captures (rolled book now) ≡ captures book
rolled_stay book now filled = stay_filled book.volumes now filled

module _ {limit : ℕ} {book : Book} {taken : Taken} (storing : Storing limit book taken) where
  pub stored_behind : captures (stored_by storing) ≡ captures book ++ as_stored taken storing.same ∷ []
  stored_behind = gains_stand_behind book (stored_by storing) (as_stored taken storing.same) (storing_gains limit book taken storing)

  pub unfilled_stay : captures storing.unfilled ≡ captures book
  unfilled_stay = ⊎_elim
      (λ same. ap captures same.1)
      (λ more. ap captures more.1 ∙ captures_stay book.volumes taken.date)
      storing.roomy

-- ---- states

module _ (list : List Acknowledged) where
  -- they stand in the book
  abbrev pub Stand : Book → Type 0
  Stand book = StandFrom 0 (captures book) list

  -- and in the other one, if there is one
  abbrev pub StandOther : Option Book → Type 0
  StandOther other = (book : Book) → other ≡ Some book → Stand book

  pub stand_same : (old new : Book) → captures new ≡ captures old → Stand old → Stand new
  stand_same old new same stand = subst (λ (all : List Stored). StandFrom 0 all list) (sym same) stand

  pub stand_behind : (old new : Book) (more : List Stored) → captures new ≡ captures old ++ more → Stand old → Stand new
  stand_behind old new more gained stand =
      subst (λ (all : List Stored). StandFrom 0 all list) (sym gained) (stand_more 0 (captures old) more list stand)

  pub stand_is : (old new : Book) → new ≡ old → Stand old → Stand new
  stand_is old new is stand = subst Stand (sym is) stand

  pub stand_none : StandOther None
  stand_none = λ book e. cc

  pub stand_some : (one : Book) → Stand one → StandOther (Some one)
  stand_some one stand = λ book e. subst Stand (same_Some one book e) stand

  pub other_is : (old new : Option Book) → new ≡ old → StandOther old → StandOther new
  other_is old new is stand = λ book e. stand book (sym is ∙ e)

  pub in_state : (is was : State) → is ≡ was → StandIn was list → StandIn is list
  in_state is was same stand = subst (λ (state : State). StandIn state list) (sym same) stand

  module _ (was : State) (stand : StandIn was list) where
    pub stays_refused : (is : State) → StaysRefused was is → StandIn is list
    stays_refused is left = record {
      book = stand_is was.book is.book (ap (λ (state : State). state.book) left.left) stand.book;
      other = ⊎_elim
          (λ same. other_is was.other is.other same stand.other)
          (λ none. other_is None is.other none stand_none)
          left.other;
    }

    pub leaves_part : {limit : ℕ} {taken : Taken} (storing : Storing limit was.book taken) (is : State) → LeavesPart was storing is → StandIn is list
    leaves_part {limit} {taken} storing is left =
        let room : Stand storing.unfilled = stand_same was.book storing.unfilled (unfilled_stay storing) stand.book in
        let after : Stand (stored_by storing) =
        stand_behind was.book (stored_by storing) (as_stored taken storing.same ∷ []) (stored_behind storing) stand.book in record {
          book = ⊎_elim
              (λ same. stand_is was.book is.book same stand.book)
              (λ more. stand_is storing.unfilled is.book more room)
              left.book;
          other = ⊎_elim
              (λ none. other_is None is.other none stand_none)
              (λ some. ⊎_elim
              (λ volume. other_is (Some storing.unfilled) is.other volume (stand_some storing.unfilled room))
              (λ stored. other_is (Some (stored_by storing)) is.other stored (stand_some (stored_by storing) after))
              some)
              left.other;
        }

    pub either_stands : (book : Book) → IsEither was book → Stand book
    either_stands book either = ⊎_elim
        (λ same. stand_is was.book book same stand.book)
        (λ other. stand.other book other)
        either

    pub within_stands : (limits : Limits) (taken : Taken) (book : Book) → IsLeftWithin limits was taken book → Stand book
    within_stands limits taken book left = ⊎_elim
        (λ either. either_stands book either)
        (λ within. ⊎_elim
        (λ room. stand_is within.1.0.unfilled book room (stand_same was.book within.1.0.unfilled (unfilled_stay within.1.0) stand.book))
        (λ after. stand_is (stored_by within.1.0) book after
        (stand_behind was.book (stored_by within.1.0) (as_stored taken within.1.0.same ∷ []) (stored_behind within.1.0) stand.book))
        within.1.1)
        left

    pub reopened : (is : State) → Stand is.book → Reopens was is → StandIn is list
    reopened is book reopens = record { book = book; other = other_is None is.other reopens.other stand_none }

    pub rolls_stand : {T : Type 0} (now : ℕ) (result : Result T RollFault) (is : State) → Rolls was now result is → StandIn is list
    rolls_stand now (Ok done) is rolls = by (is_filled was.book.volumes) refl rolls
      where
        by : (b : Bool) → is_filled was.book.volumes ≡ b
            → is ≡ (if b then record was { book = rolled was.book now; other = None } else was) → StandIn is list
        by true filled e = in_state is (record was { book = rolled was.book now; other = None }) e (record {
          book = stand_same was.book (rolled was.book now) (rolled_stay was.book now filled) stand.book;
          other = stand_none;
        })
        by false filled e = in_state is was e stand
    rolls_stand now (Err rolls.DiskFault) is left = record {
      book = stand_is was.book is.book (ap (λ (state : State). state.book) left.left) stand.book;
      other = ⊎_elim
          (λ same. other_is was.other is.other same stand.other)
          (λ some. ⊎_elim
          (λ none. other_is None is.other none stand_none)
          (λ volume. other_is (Some (rolled was.book now)) is.other volume
          (stand_some (rolled was.book now) (stand_same was.book (rolled was.book now) (rolled_stay was.book now left.filled) stand.book)))
          some)
          left.other;
    }
    rolls_stand now (Err rolls.Memory) is same = in_state is was same stand

    pub settles_stand : (result : Result ℕ CheckpointFault) (is : State) → Settles was result is → StandIn is list
    settles_stand (Ok written) is settles =
        in_state is (record was { settled = sealed was.book }) settles.1 (record { book = stand.book; other = stand.other })
    settles_stand (Err fault) is settles =
        in_state is (record was { settled = is.settled }) settles.2 (record { book = stand.book; other = stand.other })

-- ---- steps

-- what a reply adds to those that were acknowledged
abbrev With : List Acknowledged → List Acknowledged → State → Type 0
With list more is = StandIn is (list ++ more)

with_none : (list : List Acknowledged) (is : State) → StandIn is list → With list [] is
with_none list is stand = subst (λ (all : List Acknowledged). StandIn is all) (sym (append-nil list)) stand

module _ (list : List Acknowledged) (limits : Limits) (was : State) (stand : StandIn was list) where
  stored_stands : (taken : Taken) (receipt : Receipt) (is : State) → IsStored limits was taken receipt is
      → StandIn is (list ++ record { number = receipt.number; stored = as_stored taken receipt.same_as } ∷ [])
  stored_stands taken receipt is stored =
      let next : Acknowledged = record { number = receipt.number; stored = as_stored taken receipt.same_as } in
      let gained : captures (stored_by stored.storing) ≡ captures was.book ++ next.stored ∷ [] =
      stored_behind stored.storing
      ∙ ap (λ (same : Option ℕ). captures was.book ++ as_stored taken same ∷ []) (sym stored.same_as) in
      in_state (list ++ next ∷ []) is (record was { book = stored_by stored.storing; other = None }) stored.left (record {
        book = subst (λ (all : List Stored). StandFrom 0 all (list ++ next ∷ [])) (sym gained)
            (stand_push 0 (captures was.book) list next stored.number (omega arith) stand.book);
        other = stand_none (list ++ next ∷ []);
      })

  stores_stand : (taken : Taken) (result : Result Receipt StoreFault) (is : State) → Stores limits was taken result is
      → With list (stored_by_reply taken (store_reply result)) is
  stores_stand taken (Ok receipt) is stores = stored_stands taken receipt is stores
  stores_stand taken (Err (stores.Full count limit)) is full = with_none list is (in_state list is was full.3 stand)
  stores_stand taken (Err stores.DiskFault) is refused =
      with_none list is (⊎_elim
      (λ stays. stays_refused list was stand is stays)
      (λ part. leaves_part list was stand part.0 is part.1)
      refused.1)
  stores_stand taken (Err (stores.Damaged number kept found)) is none = absurd none
  stores_stand taken (Err stores.Memory) is same = with_none list is (in_state list is was same stand)

  steps_stand : (event : Event) (reply : Reply) (is : State) → Steps limits was event reply is
      → With list (acknowledged_by event reply) is
  steps_stand (events.Store taken) reply is step =
      subst (λ (r : Reply). With list (stored_by_reply taken r) is) (sym step.answer) (stores_stand taken step.result is step.stores)
  steps_stand (events.Roll now) reply is step = with_none list is (rolls_stand list was stand now step.result is step.rolls)
  steps_stand (events.Bring number) reply is step = with_none list is (in_state list is was step.stays stand)
  steps_stand (events.ByDate key time) reply is step = with_none list is (in_state list is was step.1 stand)
  steps_stand (events.Map key) reply is step = with_none list is (in_state list is was step.1 stand)
  steps_stand events.Settle reply is step = with_none list is (settles_stand list was stand step.result is step.settles)
  steps_stand (events.Stop choice) reply is step =
      with_none list is (reopened list was stand is (either_stands list was stand is.book step.either) step.reopens)
  steps_stand (events.StopWithin taken calls choice) reply is step =
      with_none list is (reopened list was stand is (within_stands list was stand limits taken is.book step.left) step.reopens)

-- ---- runs

runs_stand : (list : List Acknowledged) (limits : Limits) (was is : State) (events : List Event) (replies : List Reply)
    → StandIn was list → Runs limits was events replies is → StandIn is (list ++ acknowledged events replies)
runs_stand list limits was is [] [] stand run = with_none list is (in_state list is was run stand)
runs_stand list limits was is (event ∷ events) (reply ∷ replies) stand run =
    subst (λ (all : List Acknowledged). StandIn is all)
    (append_assoc list (acknowledged_by event reply) (acknowledged events replies))
    (runs_stand (list ++ acknowledged_by event reply) limits run.0 is events replies
    (steps_stand list limits was stand event reply run.0 run.1) run.2)
runs_stand list limits was is [] (reply ∷ replies) stand run = absurd run
runs_stand list limits was is (event ∷ events) [] stand run = absurd run

pub acknowledged_stay : AcknowledgedStay
acknowledged_stay limits was is events replies run =
    runs_stand [] limits was is events replies (record { book = tt; other = λ book e. tt }) run
