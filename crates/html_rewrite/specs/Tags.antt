-- Start tags (HTML Standard, sections 13.1.2.1 and 13.1.2.3). What stands behind a tag in its page says how far its
-- parts go.
use Rattle.std.specs.Prelude.{◌≡◌, ℕ, Bool, true, false, not, ◌||◌, ◌==◌, List, [], ◌∷◌, ◌++◌, Option, Some, None, if◌then◌else◌}
use Rattle.std.specs.Char.{is_ascii_alphabetic}
use Rattle.html_rewrite.specs.declared.attribute.Quote.{Quote}
use Rattle.html_rewrite.specs.declared.attribute.Quote.TheVariants.{Double, Single, Bare}
use Rattle.html_rewrite.specs.Bytes.{less, greater, equals, quotation, apostrophe, is_blank, is_gap, is_name_end, begins, IsRun}

abbrev pub quote_text : Quote → List ℕ
quote_text Double = quotation ∷ []
quote_text Single = apostrophe ∷ []
quote_text Bare = []

-- a byte of a value with these quotes round it
abbrev pub is_value_byte : Quote → ℕ → Bool
is_value_byte Double b = not (b == quotation)
is_value_byte Single b = not (b == apostrophe)
is_value_byte Bare b = not (is_blank b || b == greater)

-- which quote a value begins with
abbrev pub quote_at : List ℕ → Quote
quote_at text =
    if begins (λ b. b == quotation) text then Double
    else (if begins (λ b. b == apostrophe) text then Single else Bare)

-- what gives an attribute its value: blanks, `=`, blanks, and the value with its quotes
pub record Assignment : Type 0 where
  pub before : List ℕ
  pub after : List ℕ
  pub quote : Quote
  pub value : List ℕ

-- an attribute: what stands before it, its name's first byte and the others, and its value
pub record Attribute : Type 0 where
  pub gap : List ℕ
  pub first : ℕ
  pub others : List ℕ
  pub assigned : Option Assignment

-- a tag: the element's name, its attributes, and what stands before `>`
pub record Tag : Type 0 where
  pub name : List ℕ
  pub attributes : List Attribute
  pub gap : List ℕ

-- the value with its quotes, and what stands behind it
abbrev pub value_text : Assignment → List ℕ → List ℕ
value_text a rest = quote_text a.quote ++ (a.value ++ (quote_text a.quote ++ rest))

-- the value with what gives it, if there is one, and what stands behind it
abbrev pub assigned_text : Option Assignment → List ℕ → List ℕ
assigned_text None rest = rest
assigned_text (Some a) rest = a.before ++ (equals ∷ (a.after ++ value_text a rest))

-- the attribute, and what stands behind it
abbrev pub attribute_text : Attribute → List ℕ → List ℕ
attribute_text a rest = a.gap ++ (a.first ∷ (a.others ++ assigned_text a.assigned rest))

-- the attributes, and what stands behind them
abbrev pub attributes_text : List Attribute → List ℕ → List ℕ
attributes_text [] rest = rest
attributes_text (a ∷ attributes) rest = attribute_text a (attributes_text attributes rest)

-- what stands behind a tag's name: its attributes, `>`, and what stands behind the tag
abbrev pub inside_text : List Attribute → List ℕ → List ℕ → List ℕ
inside_text attributes gap rest = attributes_text attributes (gap ++ (greater ∷ rest))

-- the tag, and what stands behind it
abbrev pub tag_text : Tag → List ℕ → List ℕ
tag_text tag rest = less ∷ (tag.name ++ inside_text tag.attributes tag.gap rest)

-- blanks, and `=` behind them
abbrev pub assigns : List ℕ → Bool
assigns [] = false
assigns (b ∷ text) = if is_blank b then assigns text else b == equals

-- a value goes up to its closing quote, or to a blank or `>` where it has no quotes
pub record IsAssigned (a : Assignment) (rest : List ℕ) : Type 0 where
  pub before : IsRun is_blank a.before (equals ∷ (a.after ++ value_text a rest))
  pub after : IsRun is_blank a.after (value_text a rest)
  pub quote : quote_at (value_text a rest) ≡ a.quote
  pub value : IsRun (is_value_byte a.quote) a.value (quote_text a.quote ++ rest)

-- there is a value exactly where `=` follows
abbrev pub IsAssignedIfAny : Option Assignment → List ℕ → Type 0
IsAssignedIfAny None rest = assigns rest ≡ false
IsAssignedIfAny (Some a) rest = IsAssigned a rest

-- a byte of an attribute's name behind the first one
abbrev pub is_attribute_byte : ℕ → Bool
is_attribute_byte b = not (is_name_end b || b == equals)

-- an attribute: its name is one byte that isn't `>`, and all bytes up to a blank, `/`, `>` or `=`
pub record IsAttribute (a : Attribute) (rest : List ℕ) : Type 0 where
  pub gap : IsRun is_gap a.gap (a.first ∷ (a.others ++ assigned_text a.assigned rest))
  pub begun : (a.first == greater) ≡ false
  pub name : IsRun is_attribute_byte a.others (assigned_text a.assigned rest)
  pub assigned : IsAssignedIfAny a.assigned rest

abbrev pub AreAttributes : List Attribute → List ℕ → Type 0
AreAttributes [] rest = Unit {0}
AreAttributes (a ∷ attributes) rest =
    IsAttribute a (attributes_text attributes rest) × AreAttributes attributes rest

-- the attributes of a tag, up to its `>`
pub record IsInside (attributes : List Attribute) (gap rest : List ℕ) : Type 0 where
  pub each : AreAttributes attributes (gap ++ (greater ∷ rest))
  pub last : IsRun is_gap gap (greater ∷ rest)

-- a start tag
pub record IsTag (tag : Tag) (rest : List ℕ) : Type 0 where
  pub letter : begins is_ascii_alphabetic tag.name ≡ true
  pub name : IsRun (λ b. not (is_name_end b)) tag.name (inside_text tag.attributes tag.gap rest)
  pub inside : IsInside tag.attributes tag.gap rest
