-- What those leave who serve connections, each one after the other.
use Rattle.std.specs.Prelude.{◌≡◌, ℕ, ◌≤◌, Bool, List, [], ◌∷◌}
use Rattle.archive_shelf.specs.Told.{GoesOn, Told}
use Rattle.outside.specs.Records.{Links}
use Rattle.outside.specs.declared.clock.Clock.{Ghosts as Clocks}
use Rattle.outside.specs.declared.dialer.Dialer.{Ghosts as Dialers}
use Rattle.outside.specs.declared.dialer.Transcript.{Transcript}
use Rattle.outside.specs.declared.gate.Heard.{Heard}
use Rattle.command.specs.Gates.{unheard}
use Rattle.session.specs.Connection.{IsConnection}
use Rattle.request_answer.specs.Gains.{Setting, World}
use Rattle.session.specs.declared.served.Served.{Served}

-- What a member of the crew works with: a shelf, what the dialer tells of its links and how often it failed, and the clock's answers.
pub record Hand (S : Type 0) : Type 0 where
  pub shelf : S
  pub links : Links Transcript
  pub dialer_faults : ℕ
  pub answers : List ℕ

-- this shelf, and what the member tells
abbrev pub hand_of : {S N M C : Type 0} → Dialers N M → Clocks C → S → N × C → Hand S
hand_of dialers clocks shelf member = record {
  shelf = shelf;
  links = dialers.links member.0;
  dialer_faults = dialers.faults member.0;
  answers = clocks.answers member.1;
}

-- each shelf, with the member at its place
abbrev pub hands_of : {S N M C : Type 0} → Dialers N M → Clocks C → List S → List (N × C) → List (Hand S)
hands_of dialers clocks [] members = []
hands_of dialers clocks (shelf ∷ shelves) [] = []
hands_of dialers clocks (shelf ∷ shelves) (member ∷ members) = hand_of dialers clocks shelf member ∷ hands_of dialers clocks shelves members

module _ {S : Type 0} (alone : Bool) (told : S → Told) where
  -- what the objects of a connection tell, with what was heard of its client
  abbrev pub world_by : Heard → Hand S → World
  world_by heard hand = record {
    heard = heard;
    answers = hand.answers;
    links = hand.links;
    dialer_faults = hand.dialer_faults;
    shelf = told hand.shelf;
  }

  -- whatever the links tell, a member's shelf has gone on, and its dialer's count didn't fall
  abbrev pub WorksOn : Hand S → Hand S → Type 0
  WorksOn was is = GoesOn alone (told was.shelf) (told is.shelf) × (was.dialer_faults ≤ is.dialer_faults)

  -- so it is with each member
  abbrev pub GoOn : List (Hand S) → List (Hand S) → Type 0
  GoOn [] [] = Unit {0}
  GoOn (was ∷ before) (is ∷ after) = WorksOn was is × GoOn before after
  GoOn (was ∷ before) [] = ⊥
  GoOn [] (is ∷ after) = ⊥

module _ {S : Type 0} (alone : Bool) (told : S → Told) (setting : Setting) where
  -- one connection was served, from its first byte on, of which this was heard
  pub record ServesThis (was : Hand S) (heard : Heard) (is : Hand S) : Type 0 where
    pub served : Served
    pub connection : IsConnection alone setting (world_by alone told unheard was) (world_by alone told heard is) served

  -- connections were served, each of which began where the one before it had left shelf, dialer and clock
  abbrev pub IsShift : Hand S → List Heard → Hand S → Type 0
  IsShift was [] is = is ≡ was
  IsShift was (heard ∷ heards) is = (now : Hand S) × ServesThis was heard now × IsShift now heards is

  -- each member has served its own
  abbrev pub AreShifts : List (Hand S) → List (List Heard) → List (Hand S) → Type 0
  AreShifts [] [] [] = Unit {0}
  AreShifts (was ∷ before) (heards ∷ others) (is ∷ after) = IsShift was heards is × AreShifts before others after
  AreShifts _ _ _ = ⊥
