-- The objects of a run, and what they tell.
use Rattle.std.specs.Prelude.{◌≡◌, ℕ, Bool, List, ◌∷◌}
use Rattle.disk_model.specs.declared.disk.Disk.{Ghosts as Disks}
use Rattle.outside.specs.Gate.{Connections}
use Rattle.outside.specs.Records.{Links}
use Rattle.outside.specs.declared.clock.Clock.{Ghosts as Clocks}
use Rattle.outside.specs.declared.dialer.Dialer.{Ghosts as Dialers}
use Rattle.outside.specs.declared.dialer.Transcript.{Transcript}
use Rattle.outside.specs.declared.gate.Gate.{Ghosts as Gates}
use Rattle.outside.specs.declared.sink.Sink.{Ghosts as Sinks}

-- the disk, the gate, the crew (its members, or the one of them that works), and the output
pub record Objects (D G W O : Type 0) : Type 0 where
  pub disk : D
  pub gate : G
  pub crew : W
  pub out : O

-- The first member of a crew worked, and the others stay.
pub record UsesFirst {M : Type 0} (was is : List M) : Type 0 where
  pub before : M
  pub after : M
  pub others : List M
  pub were : was ≡ before ∷ others
  pub are : is ≡ after ∷ others

-- What is told of such objects: of the gate's links, with what is kept of those that were hung up, and of the dialer's links
-- whether they tell their traffic.
pub record Kinds (D G L P N M C O : Type 0) : Type 1 where
  pub disks : Disks D
  pub gates : Gates G L P
  pub dialers : Dialers N M
  pub clocks : Clocks C
  pub sinks : Sinks O
  pub clients_tell : Bool
  pub origins_tell : Bool

-- these objects
abbrev pub objects_of : {D G W O : Type 0} → D → G → W → O → Objects D G W O
objects_of disk gate crew out = record { disk = disk; gate = gate; crew = crew; out = out }

-- the objects that one member works with
abbrev pub with_one : {D G N C O : Type 0} → Objects D G (List (N × C)) O → N × C → Objects D G (N × C) O
with_one objects member = objects_of objects.disk objects.gate member objects.out

-- what is told of them, by the ghost members of their types
abbrev pub kinds_of : {D G L P N M C O : Type 0} → Disks D → Gates G L P → Dialers N M → Clocks C → Sinks O
    → (clients_tell origins_tell : Bool) → Kinds D G L P N M C O
kinds_of disks gates dialers clocks sinks clients_tell origins_tell = record {
  disks = disks;
  gates = gates;
  dialers = dialers;
  clocks = clocks;
  sinks = sinks;
  clients_tell = clients_tell;
  origins_tell = origins_tell;
}

-- What is told around a connection: the gate's connections, the dialer's links and how often it failed, and the clock's answers.
pub record Around : Type 0 where
  pub connections : Connections
  pub links : Links Transcript
  pub dialer_faults : ℕ
  pub answers : List ℕ

-- the gate, and a member of the crew
abbrev pub told_around : {G L P N M C : Type 0} → Gates G L P → Dialers N M → Clocks C → G → N × C → Around
told_around gates dialers clocks gate member = record {
  connections = gates.connections gate;
  links = dialers.links member.0;
  dialer_faults = dialers.faults member.0;
  answers = clocks.answers member.1;
}
