-- What the steps of a crew's work leave.
use Rattle.std.specs.Prelude.{◌≡◌, ℕ, ◌+◌, ◌-◌, ◌≤◌, Bool, false, ◌||◌, List, [], ◌∷◌, ◌++◌, length, map, is_some, IsTrue, Option, Some, None, if◌then◌else◌}
use Rattle.archive_shelf.specs.Told.{Told}
use Rattle.capture.specs.declared.site.Site.{Site}
use Rattle.link_queue.specs.Serving.{all_of}
use Rattle.outside.specs.Gate.{Connections, one_given}
use Rattle.outside.specs.declared.clock.Clock.{Ghosts as Clocks}
use Rattle.outside.specs.declared.dialer.Dialer.{Ghosts as Dialers}
use Rattle.outside.specs.declared.gate.Gate.{Ghosts as Gates}
use Rattle.outside.specs.declared.gate.Heard.{Heard}
use Rattle.crew.specs.Crews.{IsEnd}
use Rattle.crew.specs.declared.member.Member.{Member}
use Rattle.command.specs.Gates.{gate_told, GateTold}
use Rattle.crew.specs.Shifts.{Hand, IsShift, ServesThis, WorksOn, hand_of}
use Rattle.command.specs.declared.status.Status.{Status}
use Rattle.request_answer.specs.Gains.{Setting}

-- ---- the gate

-- so many more were given and are out
abbrev pub more_given : ℕ → Connections → Connections
more_given count connections = record connections { out = connections.out + count; gave = connections.gave + count }

-- what is told of a gate, and the status of a server that ends here
pub record Door : Type 0 where
  pub gate : GateTold
  pub status : Status

-- this gate, with that status
abbrev pub door_of : {G L P : Type 0} → Gates G L P → G → Status → Door
door_of gates gate status = record { gate = gate_told gates gate; status = status }

-- a connection was accepted
pub record TakesOne (tells : Bool) (was is : Door) : Type 0 where
  pub gave : IsTrue tells → is.gate.connections ≡ one_given was.gate.connections
  pub same_faults : is.gate.faults ≡ was.gate.faults
  pub same_status : is.status ≡ was.status

-- none was, for a reason
pub record TakesNone (tells : Bool) (was is : Door) : Type 0 where
  pub gave : IsTrue tells → is.gate.connections ≡ was.gate.connections
  pub later : was.gate.faults ≤ is.gate.faults
  pub ended : IsEnd is.gate.closed was.gate.faults is.gate.faults is.status

-- by the answer
abbrev pub Takes : {K : Type 0} → Bool → Door → Option K → Door → Type 0
Takes tells was (Some fresh) is = TakesOne tells was is
Takes tells was None is = TakesNone tells was is

-- they were hung up, so that what is kept of them stands in the log
abbrev pub hung_up : {P : Type 0} → (P → Heard) → List P → Connections → Connections
hung_up kept pasts connections = record connections { log = connections.log ++ map kept pasts; out = connections.out - length pasts }

-- how many connections the threads leave: those in the queue, and one that it refused
abbrev pub left_over : {K : Type 0} → List K → Option K → ℕ
left_over left refused = length left + (if is_some refused then 1 else 0)

-- ---- a member

-- a member at work: where, with what, what is kept of the connections that it served, and whether there was no room for more
pub record Desk (S P : Type 0) : Type 0 where
  pub site : Site
  pub hand : Hand S
  pub ended : List P
  pub starved : Bool

-- where this member works
abbrev pub desk_of : {S G L P N M C : Type 0} → Dialers N M → Clocks C → Member S G N C L P → Desk S P
desk_of dialers clocks member = record {
  site = member.site.now;
  hand = hand_of dialers clocks member.shelf member.member;
  ended = member.ended.items;
  starved = member.starved;
}

-- a member that begins
abbrev pub new_desk : {S P : Type 0} → Site → Hand S → Desk S P
new_desk site hand = record { site = site; hand = hand; ended = []; starved = false }

-- one of them had no room
abbrev pub any_starved : {S P : Type 0} → List (Desk S P) → Bool
any_starved [] = false
any_starved (desk ∷ desks) = desk.starved || any_starved desks

-- what is kept of all that they have served, in their order
abbrev pub all_ended : {S P : Type 0} → List (Desk S P) → List P
all_ended [] = []
all_ended (desk ∷ desks) = desk.ended ++ all_ended desks

-- room was made, or there is none
pub record Rests {S P : Type 0} (was is : Desk S P) : Type 0 where
  pub same : is ≡ record was { starved = is.starved }

-- where a member serves
abbrev pub setting_at : {S P : Type 0} → Bool → Desk S P → Setting
setting_at clock_tells desk = record { site = desk.site; clock_tells = clock_tells }

module _ {S P : Type 0} (alone : Bool) (told : S → Told) (clock_tells : Bool) (kept : P → Heard) (tells : Bool) where
  -- a connection was served, of which this is kept
  pub record ServesNext (was is : Desk S P) : Type 0 where
    pub past : P
    pub same : is ≡ record was { hand = is.hand; ended = was.ended ++ past ∷ [] }
    pub serves : IsTrue tells → ServesThis alone told (setting_at clock_tells was) was.hand (kept past) is.hand
    pub goes_on : WorksOn alone told was.hand is.hand

  -- connections were served, of which this is kept by who served them
  pub record HasWorked (was : Desk S P) (pasts : List P) (is : Desk S P) : Type 0 where
    pub site_is : is.site ≡ was.site
    pub ended_is : is.ended ≡ was.ended ++ pasts
    pub shift : IsTrue tells → IsShift alone told (setting_at clock_tells was) was.hand (map kept pasts) is.hand
    pub goes_on : WorksOn alone told was.hand is.hand

  -- each of them has
  abbrev pub HaveWorked : List (Desk S P) → List (List P) → List (Desk S P) → Type 0
  HaveWorked [] [] [] = Unit {0}
  HaveWorked (was ∷ before) (pasts ∷ others) (is ∷ after) = HasWorked was pasts is × HaveWorked before others after
  HaveWorked _ _ _ = ⊥

  -- connections were served, of which this is kept
  pub record HasServed (was : Desk S P) (pasts : List P) (is : Desk S P) : Type 0 where
    pub shift : IsTrue tells → IsShift alone told (setting_at clock_tells was) was.hand (map kept pasts) is.hand
    pub goes_on : WorksOn alone told was.hand is.hand

  -- each of them has served its own
  abbrev pub HaveServed : List (Desk S P) → List (List P) → List (Desk S P) → Type 0
  HaveServed [] [] [] = Unit {0}
  HaveServed (was ∷ before) (pasts ∷ others) (is ∷ after) = HasServed was pasts is × HaveServed before others after
  HaveServed _ _ _ = ⊥

  -- so many connections were served one after the other, and each was hung up at once
  pub record ServesOn (clients_tell : Bool) (count : ℕ) (was is : GateTold) (before after : Desk S P) : Type 0 where
    pub pasts : List P
    pub count_is : length pasts ≡ count
    pub stays : after ≡ record before { hand = after.hand }
    pub served : HasServed before pasts after
    pub logs : IsTrue clients_tell → is.connections ≡ hung_up kept pasts was.connections
    pub same_closed : is.closed ≡ was.closed
    pub same_faults : is.faults ≡ was.faults

  -- What a member kept was hung up, and then so many more connections were served and hung up.
  pub record Finishes (clients_tell : Bool) (count : ℕ) (was is : GateTold) (before after : Desk S P) : Type 0 where
    pub pasts : List P
    pub count_is : length pasts ≡ count
    pub ended_is : after.ended ≡ []
    pub served : HasServed before pasts after
    pub logs : IsTrue clients_tell → is.connections ≡ hung_up kept (before.ended ++ pasts) was.connections
    pub same_closed : is.closed ≡ was.closed
    pub same_faults : is.faults ≡ was.faults

  -- All that the gate gave was served by the members, beside each other; it is hung up once what they keep of it is, which is still out.
  pub record Works (clients_tell : Bool) (was is : Door) (before after : List (Desk S P)) : Type 0 where
    pub pasts : List (List P)
    pub served : HaveServed before pasts after
    pub hung : IsTrue clients_tell
        → hung_up kept (all_ended after) is.gate.connections ≡ hung_up kept (all_of pasts) (more_given (length (all_of pasts)) was.gate.connections)
    pub out : IsTrue clients_tell → length (all_ended after) ≤ is.gate.connections.out
    pub later : was.gate.faults ≤ is.gate.faults
    pub ended : IsEnd is.gate.closed was.gate.faults is.gate.faults is.status
