-- Hosts in brackets.
use Rattle.std.specs.Prelude.{◌≡◌, ◌≢◌, ℕ, List, [], ◌∷◌, ◌++◌, ◌⊎◌}

-- in brackets: `[`, an address and `]`
abbrev pub in_brackets : List ℕ → List ℕ
in_brackets address = 91 ∷ (address ++ 93 ∷ [])

-- A host without brackets: the address, where it stands in brackets, and else the host itself.
abbrev pub IsBare : List ℕ → List ℕ → Type 0
IsBare host bare = (host ≡ in_brackets bare)
    ⊎ ((bare ≡ host) × ((address : List ℕ) → host ≢ in_brackets address))
