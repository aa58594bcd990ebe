-- Fields of a head, as pairs of a name and a value. Names are compared with ASCII case ignored (RFC 9110,
-- section 5.1).
use Rattle.std.specs.Prelude.{ℕ, Bool, ◌==◌, List, [], ◌∷◌, map, filter, if◌then◌else◌}
use Rattle.std.specs.List.{flat_map, list_any}
use Rattle.std.specs.Char.{to_ascii_lowercase}
use Rattle.std.specs.Str.{bytes_eq}
use Rattle.httparse.specs.Ascii.{comma}
use Rattle.httparse.specs.Grammar.{Field, trim_ows}
use Rattle.httparse.specs.Spans.{name_and_value}

-- a name and a value without the blanks around it
abbrev pub NamedValue : Type 0
NamedValue = List ℕ × List ℕ

-- the fields of a head
abbrev pub named_values : List Field → List NamedValue
named_values fields = map name_and_value fields

abbrev pub lowered : List ℕ → List ℕ
lowered bytes = map to_ascii_lowercase bytes

-- the field has this name, which is given in lower case
abbrev pub is_named : List ℕ → NamedValue → Bool
is_named name field = bytes_eq (lowered field.0) name

-- some field has the name
abbrev pub has_field : List ℕ → List NamedValue → Bool
has_field name fields = list_any (is_named name) fields

-- the values of the fields of that name, in order
abbrev pub values_of : List ℕ → List NamedValue → List (List ℕ)
values_of name fields = map (λ f. f.1) (filter (is_named name) fields)

-- one more byte of the first piece
abbrev pub onto_first : ℕ → List (List ℕ) → List (List ℕ)
onto_first b [] = (b ∷ []) ∷ []
onto_first b (piece ∷ pieces) = (b ∷ piece) ∷ pieces

-- the pieces between commas
abbrev pub split_at_commas : List ℕ → List (List ℕ)
split_at_commas [] = [] ∷ []
split_at_commas (b ∷ bytes) =
    if b == comma then [] ∷ split_at_commas bytes else onto_first b (split_at_commas bytes)

-- the members of the lists that the fields of a name hold (RFC 9110, section 5.6.1)
abbrev pub members_of : List ℕ → List NamedValue → List (List ℕ)
members_of name fields = map trim_ows (flat_map split_at_commas (values_of name fields))
