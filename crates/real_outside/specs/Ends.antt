-- Where a run meets its clients and its origins.
use Rattle.std.specs.Prelude.{Bool, true, false}
use Rattle.real_outside.specs.declared.ends.Ends.{Ends}
use Rattle.real_outside.specs.declared.ends.Ends.TheVariants.{Streams, Network}

-- whether the one client is at the standard streams
abbrev pub is_streams : Ends → Bool
is_streams Streams = true
is_streams (Network site) = false
