-- What a crew leaves that serves the connections of a gate.
use Rattle.std.specs.Prelude.{◌≡◌, ℕ, ◌+◌, Bool, true, List, ◌++◌, length, ⊤}
use Rattle.archive_shelf.specs.Told.{Told}
use Rattle.capture.specs.Faults.{Rose}
use Rattle.link_queue.specs.Serving.{all_of}
use Rattle.outside.specs.Gate.{Connections}
use Rattle.outside.specs.declared.gate.Heard.{Heard}
use Rattle.crew.specs.Shifts.{AreShifts, Hand}
use Rattle.command.specs.declared.status.Status.{Status}
use Rattle.command.specs.declared.status.Status.TheVariants.{Done, Words, Archive, Outside, Memory}
use Rattle.request_answer.specs.Gains.{Setting}

-- Why no more connections were accepted, by the status that tells it: the gate, whose faults were counted before and now, is closed;
-- it failed; or there was no memory.
abbrev pub IsEnd : (closed : Bool) → (before now : ℕ) → Status → Type 0
IsEnd closed before now Done = (closed ≡ true) × (now ≡ before)
IsEnd closed before now Words = ⊥
IsEnd closed before now Archive = ⊥
IsEnd closed before now Outside = Rose before now
IsEnd closed before now Memory = ⊤

-- these were given, and hung up
abbrev pub all_hung_up : Connections → List Heard → Connections
all_hung_up connections heards = record connections { log = connections.log ++ heards; gave = connections.gave + length heards }

-- where a crew works: whether its shelves stand alone over their archive, what is told of each, and the setting
pub record Workplace (S : Type 0) : Type 1 where
  pub alone : Bool
  pub told : S → Told
  pub setting : Setting

-- All that the gate gave was served by the members, one after the other each, and was hung up in the members' order.
pub record ServesAll {S : Type 0} (place : Workplace S) (was is : Connections) (before after : List (Hand S)) : Type 0 where
  pub heards : List (List Heard)
  pub shifts : AreShifts place.alone place.told place.setting before heards after
  pub logged : is ≡ all_hung_up was (all_of heards)
