-- What the gate's first connection gives to a command that reads it to its end and writes nothing.
use Rattle.std.specs.Prelude.{◌≡◌, ◌⊎◌, ℕ, ◌<◌, ◌≤◌, Bool, true, false, List, [], ◌++◌, length, Result, Ok, Err, ⊤}
use Rattle.capture.specs.Faults.{Rose}
use Rattle.command.specs.Gates.{GateTold}
use Rattle.outside.specs.Gate.{one_served}
use Rattle.outside.specs.declared.gate.Heard.{Heard}
use Rattle.importing.specs.declared.input.InputFault.{InputFault}
use Rattle.importing.specs.declared.input.InputFault.TheVariants.{TooLong, Failed, Memory}
use Rattle.importing.specs.declared.input.TheConstants.{INPUT_LIMIT}

-- what was heard on a connection to which nothing was written
abbrev pub only_read : List ℕ → Bool → ℕ → Heard
only_read given ended faults = record { given = given; ended = ended; written = []; faults = faults; failed_writes = 0 }

-- the connection gave this input, within the limit, and its end was met
pub record IsInput (heard : Heard) (input : List ℕ) : Type 0 where
  pub is : heard ≡ only_read input true 0
  pub within : length input ≤ INPUT_LIMIT

-- why a connection gave no input: it went on past the limit, its link failed, or there was no memory
abbrev pub IsNoInput : Heard → InputFault → Type 0
IsNoInput heard TooLong = (heard ≡ only_read heard.given false 0) × (INPUT_LIMIT < length heard.given)
IsNoInput heard Failed = (heard ≡ only_read heard.given false heard.faults) × Rose 0 heard.faults
IsNoInput heard Memory = heard ≡ only_read heard.given false 0

-- why a gate, which counted its faults before and now, gave no connection: it failed, or there was no memory
abbrev pub IsNoConnection : (before now : ℕ) → InputFault → Type 0
IsNoConnection before now TooLong = ⊥
IsNoConnection before now Failed = Rose before now
IsNoConnection before now Memory = ⊤

-- One connection was given, gave this and was hung up, and is all that the gate gave; or the gate was closed, and the input is empty.
abbrev pub GivesInput : GateTold → GateTold → List ℕ → Type 0
GivesInput was is input =
    ((heard : Heard) × (is.connections ≡ one_served was.connections heard) × IsInput heard input)
    ⊎ ((was.closed ≡ true) × (is.connections ≡ was.connections) × (input ≡ []))

-- One connection was given, gave no input and was hung up; or none was given.
abbrev pub GivesNoInput : GateTold → GateTold → InputFault → Type 0
GivesNoInput was is fault =
    ((heard : Heard) × (is.connections ≡ one_served was.connections heard) × IsNoInput heard fault)
    ⊎ (IsNoConnection was.faults is.faults fault × (is.connections ≡ was.connections))

-- what came of the input
abbrev pub Gives : GateTold → GateTold → Result (List ℕ) InputFault → Type 0
Gives was is (Ok input) = GivesInput was is input
Gives was is (Err fault) = GivesNoInput was is fault

-- ---- steps of a reader

-- a piece was put behind what was read, or goes past the limit, or there was no memory for it
abbrev pub TakesPiece : List ℕ → List ℕ → List ℕ → Result ⊤ InputFault → Type 0
TakesPiece before piece now (Ok done) = (now ≡ before ++ piece) × (length now ≤ INPUT_LIMIT)
TakesPiece before piece now (Err TooLong) = INPUT_LIMIT < length (before ++ piece)
TakesPiece before piece now (Err Failed) = ⊥
TakesPiece before piece now (Err Memory) = ⊤
