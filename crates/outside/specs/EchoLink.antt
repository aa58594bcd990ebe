-- Links of the origin that echoes.
use Rattle.std.specs.Prelude.{◌≡◌, ℕ, ◌≤◌, List, [], ◌++◌, length, drop, min, if◌then◌else◌}
use Rattle.outside.specs.Echo.{echoed}
use Rattle.outside.specs.Link.{Traffic, no_traffic}

-- What a link to the origin holds: what went over it, what is left to give, and its count of faults.
pub record LinkToEcho : Type 0 where
  pub traffic : Traffic
  pub left : List ℕ
  pub faults : ℕ

-- a link that was just made
abbrev pub new_echo : List ℕ → ℕ → LinkToEcho
new_echo host port = record { traffic = no_traffic host port; left = []; faults = 0 }

-- All that it gives are the answers to what it took.
abbrev pub Echoes : LinkToEcho → Type 0
Echoes link = link.traffic.given ++ link.left ≡ (echoed link.traffic.taken).answers

-- How the parts of a link stand together: the head that has begun stands behind its place in the bytes taken,
-- and the answers are those to the heads before it.
pub record IsEcho (taken given left : List ℕ) (place : ℕ) : Type 0 where
  pub within : place ≤ length taken
  pub begun : drop place taken ≡ (echoed taken).begun
  pub answers : given ++ left ≡ (echoed taken).answers

-- how many bytes a read of at most so many gives: none once the end was met
abbrev pub readable : LinkToEcho → ℕ → ℕ
readable link room = if link.traffic.ended then 0 else min (length link.left) room
