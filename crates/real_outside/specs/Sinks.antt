-- Sinks of the system.
use Rattle.std.specs.Prelude.{ℕ, Bool, true, false}
use Rattle.real_outside.specs.declared.sink.RealSink.{RealSink}
use Rattle.real_outside.specs.declared.sink.RealSink.TheVariants.{Output, Error}

-- how often a write has failed
abbrev pub sink_faults : {R I E : Type 0} → RealSink R I E → ℕ
sink_faults (Output system faults) = faults
sink_faults (Error stream faults) = faults

-- whether a sink is standard error
abbrev pub is_error : {R I E : Type 0} → RealSink R I E → Bool
is_error (Output system faults) = false
is_error (Error stream faults) = true
