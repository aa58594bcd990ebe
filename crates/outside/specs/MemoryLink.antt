-- Links in memory.
use Rattle.std.specs.Prelude.{◌≡◌, ℕ, List, []}
use Rattle.outside.specs.declared.calls.Calls.{Calls}
use Rattle.outside.specs.Calls.{new_calls}
use Rattle.outside.specs.Link.{Traffic, no_traffic}

-- What a link in memory holds: what went over it, what is left to give, the most bytes that a call gives or takes,
-- and its calls.
pub record LinkInMemory : Type 0 where
  pub traffic : Traffic
  pub left : List ℕ
  pub most : ℕ
  pub calls : Calls

-- a link that has this input to give
abbrev pub new_link : List ℕ → ℕ → List ℕ → LinkInMemory
new_link input most fails = record {
  traffic = no_traffic [] 0;
  left = input;
  most = most;
  calls = new_calls fails;
}

-- A link as it was made: it has given and taken nothing and had no call.
abbrev pub IsNew : LinkInMemory → Type 0
IsNew link = link ≡ new_link link.left link.most link.calls.fails

-- a link that leads to this host and port
abbrev pub towards : List ℕ → ℕ → LinkInMemory → LinkInMemory
towards host port link = record link { traffic = record link.traffic { host = host; port = port } }
