-- How often a name is given a value.
use Rattle.std.specs.Prelude.{◌≡◌, ℕ, ◌≤◌, List, [], ◌∷◌, Option, Some, None, Vec, length}
use Rattle.cdx_query.specs.declared.parts.Given.{Given}
use Rattle.cdx_query.specs.declared.parts.Given.TheVariants.{Never, Once, Twice}

-- these are the parts that give it
abbrev pub IsGiven : List (List ℕ) → Given → Type 0
IsGiven giving Never = giving ≡ []
IsGiven giving (Once part) = giving ≡ part.now ∷ []
IsGiven giving Twice = 2 ≤ length giving

-- the value, if any, as a list
abbrev pub listed : {A : Type 0} → Option (Vec ℕ A) → List (List ℕ)
listed None = []
listed (Some value) = value.items ∷ []
