-- What an import of the gate's first connection leaves.
use Rattle.std.specs.Prelude.{◌≡◌, ◌⊎◌, ℕ, Bool, List, IsTrue, Result, Err}
use Rattle.archive_shelf.specs.Told.{Told}
use Rattle.outside.specs.declared.sink.Sink.{Ghosts as Sinks}
use Rattle.importing.specs.Imports.{Tells}
use Rattle.command.specs.Gates.{GateTold}
use Rattle.command.specs.Printing.{Printed}
use Rattle.importing.specs.Inputs.{Gives}
use Rattle.importing.specs.Keeping.{Intake, Keeps}
use Rattle.importing.specs.declared.input.InputFault.{InputFault}
use Rattle.importing.specs.declared.input.InputFault.TheVariants.{Failed}

module _ {O : Type 0} (alone : Bool) (sinks : Sinks O) where
  -- the captures of an input were stored in their order, up to a refusal, and that was told
  pub record HasImported (input : Result (List ℕ) InputFault) (was is : Told) (printed : Printed O) : Type 0 where
    pub intake : Intake
    pub keeps : Keeps alone intake was is
    pub told : Tells sinks intake printed input

  module _ (clients_tell : Bool) where
    -- the gate's first connection was read to its end and hung up, and what it gave was imported
    pub record ImportsFirst (gate_was gate_is : GateTold) (was is : Told) (printed : Printed O) : Type 0 where
      pub input : Result (List ℕ) InputFault
      pub came : IsTrue clients_tell → Gives gate_was gate_is input
      pub gate_failed : (input ≡ Err Failed) ⊎ (gate_is.faults ≡ gate_was.faults)
      pub imported : HasImported input was is printed
