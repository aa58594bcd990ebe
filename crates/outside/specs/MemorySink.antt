-- Sinks in memory.
use Rattle.std.specs.Prelude.{ℕ, List, []}
use Rattle.outside.specs.declared.calls.Calls.{Calls}
use Rattle.outside.specs.Calls.{new_calls}

-- What a sink in memory holds: what was written, and its calls.
pub record SinkInMemory : Type 0 where
  pub written : List ℕ
  pub calls : Calls

-- a sink with nothing written
abbrev pub new_sink : List ℕ → SinkInMemory
new_sink fails = record { written = []; calls = new_calls fails }
