-- What is left of links that were made and hung up.
use Rattle.std.specs.Prelude.{◌≡◌}
use Rattle.outside.specs.declared.dialer.Transcript.{Transcript}
use Rattle.outside.specs.declared.gate.Heard.{Heard}
use Rattle.outside.specs.Gate.{Connections, one_given, one_hung_up, one_served}
use Rattle.outside.specs.Records.{Links, one_out, one_in, logged}

-- A dialer's link that was made and hung up leaves its transcript in the log, and nothing more is out.
abbrev pub LinksHungUpAreLogged : Type 0
LinksHungUpAreLogged =
    (links : Links Transcript) (transcript : Transcript) → one_in (one_out links) transcript ≡ logged links transcript

-- A gate's connection that was given and hung up leaves in the log what was heard on it, and nothing more is out.
abbrev pub ConnectionsHungUpAreLogged : Type 0
ConnectionsHungUpAreLogged =
    (connections : Connections) (heard : Heard) →
    one_hung_up (one_given connections) heard ≡ one_served connections heard
