-- Which addresses of a host are kept where there are more than places for them.
use Rattle.std.specs.Prelude.{◌≡◌, ℕ, zero, suc, Bool, true, false, not, ◌&&◌, List, [], ◌∷◌, ◌++◌, length, take, drop}
use Rattle.std.specs.List.{list_any, best_of}
use Rattle.std.specs.declared.net.socket_addr.SocketAddr.{SocketAddr}
use Rattle.std.specs.declared.net.socket_addr.SocketAddr.TheVariants.{V4, V6}

-- whether two addresses are of one family: both IPv4, or both IPv6
abbrev pub is_kin : SocketAddr → SocketAddr → Bool
is_kin (V4 one) (V4 other) = true
is_kin (V6 one) (V6 other) = true
is_kin one other = false

-- whether one of these is of the same family
abbrev pub has_kin : List SocketAddr → SocketAddr → Bool
has_kin before address = list_any (is_kin address) before

-- whether the first of two takes the place behind these before the other does: it alone is of a family that none of them has
abbrev pub goes_before : List SocketAddr → SocketAddr → SocketAddr → Bool
goes_before before one other = not (has_kin before one) && has_kin before other

-- what stands in the last place, behind these: the first one of those left whose family none of these has, or else the next one
abbrev pub last_of : (before left : List SocketAddr) → List SocketAddr
last_of before [] = []
last_of before (next ∷ more) = best_of (goes_before before) next more ∷ []

-- the addresses that are kept in so many places: the first ones, but for the last place
abbrev pub first_of : ℕ → List SocketAddr → List SocketAddr
first_of zero addresses = []
first_of (suc places) addresses = take places addresses ++ last_of (take places addresses) (drop places addresses)

-- They are put at the front, so many of them, and what stood behind stays.
pub record ArePut (addresses was is : List SocketAddr) (many : ℕ) : Type 0 where
  pub front : is ≡ first_of (length was) addresses ++ drop many was
  pub count : many ≡ length (first_of (length was) addresses)
