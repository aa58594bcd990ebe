-- The lines of the fields that pass a test, as they are written one by one.
use Rattle.std.proofs.Common.{◌≡◌, ℕ, ◌+◌, ◌<◌, ◌≤◌, Bool, true, false, List, [], ◌∷◌, ◌++◌, map, length, take, get_or, filter, refl, sym, ap, ◌∙◌, append_assoc, append-nil, if◌then◌else◌}
use Rattle.std.specs.List.{flat_map}
use Rattle.std.proofs.lemmas.List.Elements.{filter-append}
use Rattle.std.proofs.lemmas.Grind.{flat_map-append}
use Rattle.std.proofs.lemmas.List.{map-append, take_more, take_all}
use Rattle.capture.specs.Fields.{NamedValue}
use Rattle.http_head.specs.declared.head.Field.{Field}
use Rattle.http_head.specs.Heads.{named_value}
use Rattle.head_lines.specs.Lines.{field_line}
use Rattle.exchange.specs.Texts.{field_lines}

line_of_one : (passes : Bool) (f : NamedValue) → flat_map field_line (if passes then f ∷ [] else []) ≡ (if passes then field_line f else [])
line_of_one true f = append-nil (field_line f)
line_of_one false f = refl

-- one more field
field_lines-push : (test : NamedValue → Bool) (fields : List NamedValue) (f : NamedValue) → field_lines test (fields ++ f ∷ []) ≡ field_lines test fields ++ (if test f then field_line f else [])
unfolding field_lines
field_lines-push test fields f =
    ap (flat_map field_line) (filter-append test fields (f ∷ []))
    ∙ flat_map-append field_line (filter test fields) (filter test (f ∷ []))
    ∙ ap (λ last. flat_map field_line (filter test fields) ++ last) (line_of_one (test f) f)

-- the lines of the first i fields
pub lines_so_far : (NamedValue → Bool) → List Field → ℕ → List ℕ
lines_so_far test fields i = field_lines test (map named_value (take i fields))

lines_so_far-more : (test : NamedValue → Bool) (fields : List Field) (i : ℕ) (f : Field) → i < length fields → f ≡ get_or fields i f → lines_so_far test fields (i + 1) ≡ lines_so_far test fields i ++ (if test (named_value f) then field_line (named_value f) else [])
unfolding lines_so_far
lines_so_far-more test fields i f within is =
    let taken : take (i + 1) fields ≡ take i fields ++ f ∷ [] = take_more fields i f within ∙ ap (λ x. take i fields ++ x ∷ []) (sym is) in
    ap (λ some. field_lines test (map named_value some)) taken
    ∙ ap (field_lines test) (map-append named_value (take i fields) (f ∷ []))
    ∙ field_lines-push test (map named_value (take i fields)) (named_value f)

-- a field that passes has its line, and another has none
pub lines_with : (test : NamedValue → Bool) (fields : List Field) (i : ℕ) (f : Field) (before out : List ℕ) → i < length fields → f ≡ get_or fields i f → test (named_value f) ≡ true → out ≡ before ++ lines_so_far test fields i → out ++ field_line (named_value f) ≡ before ++ lines_so_far test fields (i + 1)
lines_with test fields i f before out within is passes so_far =
    ap (λ text. text ++ field_line (named_value f)) so_far
    ∙ append_assoc before (lines_so_far test fields i) (field_line (named_value f))
    ∙ ap (λ more. before ++ more) (sym (lines_so_far-more test fields i f within is ∙ ap (λ b. lines_so_far test fields i ++ (if b then field_line (named_value f) else [])) passes))

pub lines_without : (test : NamedValue → Bool) (fields : List Field) (i : ℕ) (f : Field) (before out : List ℕ) → i < length fields → f ≡ get_or fields i f → test (named_value f) ≡ false → out ≡ before ++ lines_so_far test fields i → out ≡ before ++ lines_so_far test fields (i + 1)
lines_without test fields i f before out within is passes so_far =
    so_far
    ∙ ap (λ more. before ++ more) (sym (lines_so_far-more test fields i f within is ∙ ap (λ b. lines_so_far test fields i ++ (if b then field_line (named_value f) else [])) passes ∙ append-nil (lines_so_far test fields i)))

pub no_lines_yet : (test : NamedValue → Bool) (fields : List Field) (before : List ℕ) → before ≡ before ++ lines_so_far test fields 0
unfolding lines_so_far field_lines
no_lines_yet test fields before = sym (append-nil before)

pub all_lines : (test : NamedValue → Bool) (fields : List Field) (i : ℕ) → length fields ≤ i → lines_so_far test fields i ≡ field_lines test (map named_value fields)
unfolding lines_so_far
all_lines test fields i whole = ap (λ some. field_lines test (map named_value some)) (take_all i fields whole)
