-- What printing leaves, and the status that tells it.
use Rattle.std.specs.Prelude.{◌≡◌, ◌⊎◌, ℕ, List, ◌++◌, IsTrue}
use Rattle.capture.specs.Faults.{Rose}
use Rattle.exchange.specs.Writing.{GrowsByProperFront}
use Rattle.outside.specs.declared.sink.Sink.{Ghosts}
use Rattle.command.specs.declared.status.Status.{Status}
use Rattle.command.specs.declared.status.Status.TheVariants.{Memory, Outside}

-- what was printed to, as it was and as it is then, and the status that tells it
pub record Printed (O : Type 0) : Type 0 where
  pub was : O
  pub is : O
  pub status : Status

abbrev pub printed_as : {O : Type 0} → O → O → Status → Printed O
printed_as was is status = record { was = was; is = is; status = status }

module _ {O : Type 0} (sinks : Ghosts O) where
  -- The whole text was printed, and the status is the one that is told.
  pub record PrintsAll (told : Status) (text : List ℕ) (was is : O) (status : Status) : Type 0 where
    pub status_is : status ≡ told
    pub same_faults : sinks.faults is ≡ sinks.faults was
    pub written : IsTrue sinks.tells → sinks.written is ≡ sinks.written was ++ text

  -- The sink failed, and a front of the text was printed.
  pub record BreaksOff (text : List ℕ) (was is : O) (status : Status) : Type 0 where
    pub status_is : status ≡ Outside
    pub broke : Rose (sinks.faults was) (sinks.faults is)
    pub written : IsTrue sinks.tells → GrowsByProperFront (sinks.written was) (sinks.written is) text

  -- one of the two
  abbrev pub Prints : Status → List ℕ → O → O → Status → Type 0
  Prints told text was is status = PrintsAll told text was is status ⊎ BreaksOff text was is status

  -- there was no memory, and nothing was printed
  pub record LacksMemory (was is : O) (status : Status) : Type 0 where
    pub status_is : status ≡ Memory
    pub same : is ≡ was
