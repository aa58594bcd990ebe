-- What goes over links.
use Rattle.std.specs.Prelude.{◌≡◌, ℕ, List, [], Bool, false}

-- The bytes that a link gave and whether the end of them was met, the bytes that it took and how many writes failed,
-- and the host and port at its other end, where this side dialled it.
pub record Traffic : Type 0 where
  pub given : List ℕ
  pub ended : Bool
  pub taken : List ℕ
  pub failed_writes : ℕ
  pub host : List ℕ
  pub port : ℕ

-- nothing yet, with this host and port
abbrev pub no_traffic : List ℕ → ℕ → Traffic
no_traffic host port = record { given = []; ended = false; taken = []; failed_writes = 0; host = host; port = port }

-- A fresh link has given and taken nothing, and its end isn't met.
abbrev pub IsFresh : Traffic → Type 0
IsFresh traffic = traffic ≡ no_traffic traffic.host traffic.port
