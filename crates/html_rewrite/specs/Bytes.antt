-- The bytes that a page's markup is made of, and how far a part of a text goes.
use Rattle.std.specs.Prelude.{◌≡◌, ℕ, Bool, true, false, not, ◌||◌, ◌==◌, nat_eq, List, [], ◌∷◌, ◌++◌}
use Rattle.std.specs.List.{starts_with}

-- `<`
abbrev pub less : ℕ
less = 60

-- `>`
abbrev pub greater : ℕ
greater = 62

-- `/`
abbrev pub slash : ℕ
slash = 47

-- `=`
abbrev pub equals : ℕ
equals = 61

-- `"`
abbrev pub quotation : ℕ
quotation = 34

-- `'`
abbrev pub apostrophe : ℕ
apostrophe = 39

-- tab, line feed, form feed, carriage return and space
abbrev pub is_blank : ℕ → Bool
is_blank b = b == 9 || b == 10 || b == 12 || b == 13 || b == 32

-- what stands between a tag's attributes
abbrev pub is_gap : ℕ → Bool
is_gap b = is_blank b || b == slash

-- what an element's name ends before
abbrev pub is_name_end : ℕ → Bool
is_name_end b = is_gap b || b == greater

-- what the text begins with passes the test
abbrev pub begins : (ℕ → Bool) → List ℕ → Bool
begins test [] = false
begins test (b ∷ _) = test b

-- the text begins with this one
abbrev pub begins_with : List ℕ → List ℕ → Bool
begins_with front text = starts_with nat_eq text front

abbrev pub is_empty : List ℕ → Bool
is_empty [] = true
is_empty (_ ∷ _) = false

-- the front is what stands before the first place whose text ahead passes the test, or all where none does
abbrev pub IsUpTo : (List ℕ → Bool) → List ℕ → List ℕ → Type 0
IsUpTo stops [] rest = (is_empty rest || stops rest) ≡ true
IsUpTo stops (b ∷ front) rest = (stops (b ∷ front ++ rest) ≡ false) × IsUpTo stops front rest

-- the front is the longest run of bytes that pass the test
abbrev pub IsRun : (ℕ → Bool) → List ℕ → List ℕ → Type 0
IsRun test run rest = IsUpTo (λ text. not (begins test text)) run rest
