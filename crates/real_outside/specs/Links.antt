-- Connections of the system.
use Rattle.std.specs.Prelude.{ℕ}
use Rattle.real_outside.specs.declared.link.RealLink.{RealLink}
use Rattle.real_outside.specs.declared.link.RealLink.TheVariants.{Streams, Tcp, Echo}

-- how often a call on a connection has failed
abbrev pub link_faults : {R I E S L : Type 0} → RealLink R I E S L → ℕ
link_faults (Streams input output faults) = faults
link_faults (Tcp link faults) = faults
link_faults (Echo link faults) = faults
