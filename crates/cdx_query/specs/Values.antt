-- The values that a query's text gives to names. It is parts `name=value` with `&` between each two.
use Rattle.std.specs.Prelude.{ℕ, Bool, ◌==◌, nat_eq, List, [], ◌∷◌, drop, filter, length, map, codes}
use Rattle.std.specs.List.{list_all, list_any, slice_split, starts_with}
use Rattle.percent_encoding.specs.Percent.{percent_decode}

-- `&`
abbrev pub ampersand : ℕ
ampersand = 38

-- the parts between `&`, which may be empty
abbrev pub parts_of : List ℕ → List (List ℕ)
parts_of text = slice_split (λ b. b == ampersand) text

-- The names, each with the `=` behind it. No name holds `=`, so a part that begins so is cut at its first one.
abbrev pub url_name : List ℕ
url_name = codes "url="

abbrev pub match_type_name : List ℕ
match_type_name = codes "matchType="

abbrev pub from_name : List ℕ
from_name = codes "from="

abbrev pub to_name : List ℕ
to_name = codes "to="

abbrev pub limit_name : List ℕ
limit_name = codes "limit="

abbrev pub output_name : List ℕ
output_name = codes "output="

abbrev pub names : List (List ℕ)
names = url_name ∷ match_type_name ∷ from_name ∷ to_name ∷ limit_name ∷ output_name ∷ []

-- the part gives a value to this name
abbrev pub gives : List ℕ → List ℕ → Bool
gives name part = starts_with nat_eq part name

-- the part gives a value to one of the names
abbrev pub is_known : List ℕ → Bool
is_known part = list_any (λ name. gives name part) names

-- the value of a part, where `%` and two hexadecimal digits stand for a byte (URL Standard, section 1.3)
abbrev pub value_behind : List ℕ → List ℕ → List ℕ
value_behind name part = percent_decode (drop (length name) part)

-- the values that the parts give to this name, in order
abbrev pub values_of : List ℕ → List (List ℕ) → List (List ℕ)
values_of name parts = map (value_behind name) (filter (gives name) parts)

-- each part gives a value to one of the names
abbrev pub are_known : List (List ℕ) → Bool
are_known parts = list_all is_known parts
