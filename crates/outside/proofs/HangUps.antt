-- Links that were made and hung up.
use Rattle.std.proofs.Common.{◌≡◌, ℕ, ◌+◌, ◌-◌, ◌∷◌, ◌++◌, [], arith}
use Rattle.outside.specs.declared.gate.Heard.{Heard}
use Rattle.outside.specs.Gate.{Connections, one_given, one_hung_up, one_served}
use Rattle.outside.specs.Records.{Links, one_out, one_in, logged}

-- one more and one less
same_out : (out : ℕ) → out + 1 - 1 ≡ out
same_out out = omega arith

-- a link that went out and came in again left its record, and as many are out as before
pub links_hung_up_are_logged : {T : Type 0} (links : Links T) (entry : T) → one_in (one_out links) entry ≡ logged links entry
links_hung_up_are_logged links entry = λ i. record { log = links.log ++ entry ∷ []; out = same_out links.out i }

-- a connection that was given and hung up left what was heard on it, and as many are out as before
pub connections_hung_up_are_logged : (connections : Connections) (heard : Heard) →
    one_hung_up (one_given connections) heard ≡ one_served connections heard
connections_hung_up_are_logged connections heard =
    λ i. record { log = connections.log ++ heard ∷ []; out = same_out connections.out i; gave = connections.gave + 1 }
