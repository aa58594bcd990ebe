-- What a gate tells, and what is heard of a connection that begins.
use Rattle.std.specs.Prelude.{ℕ, Bool, false, []}
use Rattle.outside.specs.Gate.{Connections}
use Rattle.outside.specs.declared.gate.Gate.{Ghosts as Gates}
use Rattle.outside.specs.declared.gate.Heard.{Heard}

-- a gate: its connections, whether it is closed, and how many faults it has counted
pub record GateTold : Type 0 where
  pub connections : Connections
  pub closed : Bool
  pub faults : ℕ

-- what a gate tells
abbrev pub gate_told : {G L P : Type 0} → Gates G L P → G → GateTold
gate_told gates gate = record { connections = gates.connections gate; closed = gates.closed gate; faults = gates.faults gate }

-- nothing was heard yet
abbrev pub unheard : Heard
unheard = record { given = []; ended = false; written = []; faults = 0; failed_writes = 0 }
