-- What a head tells of the body, within the limit.
use Rattle.std.specs.Prelude.{◌≡◌, Some, None, Result, Ok, Err}
use Rattle.capture.specs.First.{fault_at_head}
use Rattle.capture.specs.declared.framing.Framing.{Framing}
use Rattle.capture.specs.declared.framing.FramingFault.{FramingFault}
use Rattle.capture.specs.declared.framing.MessageFault.{MessageFault}
use Rattle.http_head.specs.declared.head.WireFault.{WireFault}
use Rattle.http_wire.specs.Reading.{fault_in}

-- the framing that is told, or the fault
abbrev pub IsTold : Result Framing FramingFault → Result Framing WireFault → Type 0
IsTold told (Ok framing) = (told ≡ Ok framing) × (fault_at_head told ≡ None)
IsTold told (Err fault) = (due : MessageFault) × (fault_at_head told ≡ Some due) × (fault ≡ fault_in due)
