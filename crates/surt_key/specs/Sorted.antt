-- Texts in the order of their bytes.
use Rattle.std.specs.Prelude.{ℕ, List, [], ◌∷◌, if◌then◌else◌}
use Rattle.std.specs.Ordering.{nat_cmp, is_le}
use Rattle.std.specs.Cmp.Lexicographic.{slice_cmp}

-- the text, put before the first that isn't less
abbrev pub insert_in_order : List ℕ → List (List ℕ) → List (List ℕ)
insert_in_order text [] = text ∷ []
insert_in_order text (first ∷ others) =
    if is_le (slice_cmp nat_cmp text first) then text ∷ first ∷ others
    else first ∷ insert_in_order text others

-- the texts, sorted by their bytes
abbrev pub sorted : List (List ℕ) → List (List ℕ)
sorted [] = []
sorted (text ∷ texts) = insert_in_order text (sorted texts)
