-- Every key begins with no bytes.
use Rattle.std.proofs.Common.{◌≡◌, List, [], ◌∷◌, refl, ap}
use Rattle.index_entry.specs.Facts.{Facts}
use Rattle.index_entry.specs.Queries.{starting_with}

pub all_start : (entries : List Facts) → starting_with [] entries ≡ entries
all_start [] = refl
all_start (e ∷ entries) = ap (λ l. e ∷ l) (all_start entries)
