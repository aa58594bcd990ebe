-- Gates in memory.
use Rattle.std.specs.Prelude.{◌≡◌, ℕ, List, [], ◌∷◌}
use Rattle.outside.specs.declared.calls.Calls.{Calls}
use Rattle.outside.specs.declared.gate.Accepted.{Accepted}
use Rattle.outside.specs.declared.gate.Accepted.TheVariants.{Connection, Closed, Failed, Memory}
use Rattle.outside.specs.Calls.{new_calls, passed, failed}
use Rattle.outside.specs.Gate.{Connections, no_connections, after_accept}
use Rattle.outside.specs.MemoryLink.{LinkInMemory}

-- What a gate in memory holds: the connections that it has left to give, what it tells of those that it gave, and
-- its calls.
pub record GateInMemory : Type 0 where
  pub left : List LinkInMemory
  pub connections : Connections
  pub calls : Calls

-- a gate that has these connections to give
abbrev pub new_gate : List LinkInMemory → List ℕ → GateInMemory
new_gate left fails = record { left = left; connections = no_connections; calls = new_calls fails }

-- An answer gives the first of the connections that are left, or is Closed where none is, or gives none.
abbrev pub Gives : List LinkInMemory → Accepted LinkInMemory → List LinkInMemory → Type 0
Gives before (Connection link) after = before ≡ link ∷ after
Gives before Closed after = (before ≡ []) × (after ≡ [])
Gives before Failed after = after ≡ before
Gives before Memory after = after ≡ before

-- an accept that fails counts its fault, and any other only its number
abbrev pub calls_after : Calls → Accepted LinkInMemory → Calls
calls_after calls (Connection link) = passed calls
calls_after calls Closed = passed calls
calls_after calls Failed = failed calls
calls_after calls Memory = passed calls

-- an accept gives one connection or none; these are then left
abbrev pub gate_after : GateInMemory → Accepted LinkInMemory → List LinkInMemory → GateInMemory
gate_after gate answer left = record {
  left = left;
  connections = after_accept gate.connections answer;
  calls = calls_after gate.calls answer;
}
