-- Gates of the system.
use Rattle.std.specs.Prelude.{ℕ, [], Bool, true, false, Some, None}
use Rattle.real_outside.specs.declared.gate.RealGate.{RealGate}
use Rattle.real_outside.specs.declared.gate.RealGate.TheVariants.{Once, Tcp}
use Rattle.outside.specs.declared.gate.Heard.{Heard}
use Rattle.outside.specs.Gate.{heard_of}
use Rattle.outside.specs.Link.{no_traffic}

-- how often an accept has failed: the standard streams are given without fail
abbrev pub gate_faults : {R I E S L : Type 0} → RealGate R I E S L → ℕ
gate_faults (Once system) = 0
gate_faults (Tcp gate faults) = faults

-- whether a gate gives no connection any more: the standard streams are given once
abbrev pub is_closed : {R I E S L : Type 0} → RealGate R I E S L → Bool
is_closed (Once (Some system)) = false
is_closed (Once None) = true
is_closed (Tcp gate faults) = false

-- what a connection keeps that tells nothing
abbrev pub nothing_heard : Heard
nothing_heard = heard_of (no_traffic [] 0) 0

-- whether a gate gives the standard streams
abbrev pub is_once : {R I E S L : Type 0} → RealGate R I E S L → Bool
is_once (Once system) = true
is_once (Tcp gate faults) = false
