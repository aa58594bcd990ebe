-- What a gate answers, and what it keeps of connections.
use Rattle.std.specs.Prelude.{◌≡◌, ℕ, ◌+◌, ◌-◌, ◌≤◌, List, [], ◌∷◌, ◌++◌, ⊤}
use Rattle.capture.specs.Faults.{Rose}
use Rattle.outside.specs.declared.gate.Accepted.{Accepted}
use Rattle.outside.specs.declared.gate.Accepted.TheVariants.{Connection, Closed, Failed, Memory}
use Rattle.outside.specs.declared.gate.Heard.{Heard}
use Rattle.outside.specs.Link.{Traffic}

-- P of the connection, if the answer is one
abbrev pub IfConnection : {L : Type 0} → Accepted L → (L → Type 0) → Type 0
IfConnection (Connection link) P = P link
IfConnection Closed P = ⊤
IfConnection Failed P = ⊤
IfConnection Memory P = ⊤

-- P, if the answer is that the gate is closed
abbrev pub OnClosed : {L : Type 0} → Accepted L → Type 0 → Type 0
OnClosed (Connection link) P = ⊤
OnClosed Closed P = P
OnClosed Failed P = ⊤
OnClosed Memory P = ⊤

-- What was heard on the connections that were hung up, in that order, how many are out (given and not hung up), and
-- how many were given.
pub record Connections : Type 0 where
  pub log : List Heard
  pub out : ℕ
  pub gave : ℕ

-- no connection yet
abbrev pub no_connections : Connections
no_connections = record { log = []; out = 0; gave = 0 }

-- one more was given and is out
abbrev pub one_given : Connections → Connections
one_given connections = record connections { out = connections.out + 1; gave = connections.gave + 1 }

-- after an accept: one more connection where the answer is one, and else the same
abbrev pub after_accept : {L : Type 0} → Connections → Accepted L → Connections
after_accept connections (Connection link) = one_given connections
after_accept connections Closed = connections
after_accept connections Failed = connections
after_accept connections Memory = connections

-- one that was out is hung up, and this was heard on it
abbrev pub one_hung_up : Connections → Heard → Connections
one_hung_up connections heard =
    record connections { log = connections.log ++ heard ∷ []; out = connections.out - 1 }

-- one more was given and hung up, and this was heard on it; what is out is as before
abbrev pub one_served : Connections → Heard → Connections
one_served connections heard =
    record connections { log = connections.log ++ heard ∷ []; gave = connections.gave + 1 }

-- what went over a connection whose link failed so often, as a gate keeps it
abbrev pub heard_of : Traffic → ℕ → Heard
heard_of traffic faults = record {
  given = traffic.given;
  ended = traffic.ended;
  written = traffic.taken;
  faults = faults;
  failed_writes = traffic.failed_writes;
}

-- An accept counts its fault: the count rises where it answers Failed, and else stays.
abbrev pub CountsAccept : {L : Type 0} → ℕ → ℕ → Accepted L → Type 0
CountsAccept before now (Connection link) = now ≡ before
CountsAccept before now Closed = now ≡ before
CountsAccept before now Failed = (before ≤ now) × Rose before now
CountsAccept before now Memory = now ≡ before
