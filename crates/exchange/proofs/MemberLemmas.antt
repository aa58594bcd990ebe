-- The members of a list between commas, the blanks around each, and the names that the Connection fields list.
use Rattle.std.proofs.Common.{◌≡◌, ℕ, ◌+◌, ◌<◌, ◌≤◌, Bool, true, false, ◌||◌, List, [], ◌∷◌, ◌++◌, map, length, take, get_or, filter, Bor, refl, sym, ap, ◌∙◌, append_assoc, append-nil, if◌then◌else◌}
use Rattle.std.specs.List.{list_any, flat_map}
use Rattle.std.proofs.lemmas.List.{map-append, take_more, take_all}
use Rattle.std.proofs.lemmas.List.Elements.{filter-append}
use Rattle.std.proofs.lemmas.Grind.{flat_map-append}
use Rattle.httparse.specs.Grammar.{trim_ows}
use Rattle.capture.specs.Fields.{NamedValue, is_named, split_at_commas}
use Rattle.http_head.specs.declared.head.Field.{Field}
use Rattle.http_head.specs.Heads.{named_value}
use Rattle.message_body.specs.Framings.{members}
use Rattle.exchange.specs.Texts.{connection, listed_names}

-- ---- members that are put behind others

pub last_put : (before all : List (List ℕ)) (list member : List ℕ) → members list ≡ member ∷ [] → before ++ members list ≡ all
    → before ++ member ∷ [] ≡ all
last_put before all list member last e = ap (λ ms. before ++ ms) (sym last) ∙ e

pub one_put : (before now all : List (List ℕ)) (list member behind : List ℕ) → members list ≡ member ∷ members behind
    → before ++ members list ≡ all → now ≡ before ++ member ∷ [] → now ++ members behind ≡ all
one_put before now all list member behind more e put =
    ap (λ ms. ms ++ members behind) put ∙ append_assoc before (member ∷ []) (members behind) ∙ ap (λ ms. before ++ ms) (sym more) ∙ e

-- the bytes that one more reference names
pub now_put : (before now : List (Bor (List ℕ))) (one : Bor (List ℕ)) → now ≡ before ++ one ∷ [] → map (λ (m : Bor (List ℕ)). m.now) now ≡ map (λ (m : Bor (List ℕ)). m.now) before ++ one.now ∷ []
now_put before now one put = ap (map (λ (m : Bor (List ℕ)). m.now)) put ∙ map-append (λ (m : Bor (List ℕ)). m.now) before (one ∷ [])

-- a test of what references name
pub any_now : (test : List ℕ → Bool) (names : List (Bor (List ℕ))) → list_any (λ (m : Bor (List ℕ)). test m.now) names ≡ list_any test (map (λ (m : Bor (List ℕ)). m.now) names)
any_now test [] = refl
any_now test (m ∷ names) = ap (λ others. test m.now || others) (any_now test names)

-- ---- the names that the Connection fields list

-- the names that the first i fields list
pub names_so_far : List Field → ℕ → List (List ℕ)
names_so_far fields i = listed_names (map named_value (take i fields))

pub no_names_yet : (fields : List Field) → [] ≡ names_so_far fields 0
unfolding names_so_far
no_names_yet fields = refl

-- what one field adds
names_of_one : (is_connection : Bool) (f : NamedValue) → map trim_ows (flat_map split_at_commas (map (λ (f : NamedValue). f.1) (if is_connection then f ∷ [] else []))) ≡ (if is_connection then members f.1 else [])
names_of_one true f = ap (map trim_ows) (append-nil (split_at_commas f.1))
names_of_one false f = refl

names_so_far-more : (fields : List Field) (i : ℕ) (f : Field) → i < length fields → f ≡ get_or fields i f → names_so_far fields (i + 1) ≡ names_so_far fields i ++ (if is_named connection (named_value f) then members f.value else [])
unfolding names_so_far
names_so_far-more fields i f within is =
    let before = map named_value (take i fields) in
    let is_connection = is_named connection in
    let value = λ (f : NamedValue). f.1 in
    let taken : take (i + 1) fields ≡ take i fields ++ f ∷ [] = take_more fields i f within ∙ ap (λ x. take i fields ++ x ∷ []) (sym is) in
    ap (λ some. listed_names (map named_value some)) taken
    ∙ ap listed_names (map-append named_value (take i fields) (f ∷ []))
    ∙ ap (λ some. map trim_ows (flat_map split_at_commas (map value some))) (filter-append is_connection before (named_value f ∷ []))
    ∙ ap (λ values. map trim_ows (flat_map split_at_commas values)) (map-append value (filter is_connection before) (filter is_connection (named_value f ∷ [])))
    ∙ ap (map trim_ows) (flat_map-append split_at_commas (map value (filter is_connection before)) (map value (filter is_connection (named_value f ∷ []))))
    ∙ map-append trim_ows (flat_map split_at_commas (map value (filter is_connection before))) (flat_map split_at_commas (map value (filter is_connection (named_value f ∷ []))))
    ∙ ap (λ more. names_so_far fields i ++ more) (names_of_one (is_named connection (named_value f)) (named_value f))

pub names_with : (fields : List Field) (i : ℕ) (f : Field) (before now : List (List ℕ)) → i < length fields → f ≡ get_or fields i f → is_named connection (named_value f) ≡ true
    → before ≡ names_so_far fields i → now ≡ before ++ members f.value → now ≡ names_so_far fields (i + 1)
names_with fields i f before now within is named so_far put =
    put ∙ ap (λ names. names ++ members f.value) so_far
    ∙ sym (names_so_far-more fields i f within is ∙ ap (λ b. names_so_far fields i ++ (if b then members f.value else [])) named)

pub names_without : (fields : List Field) (i : ℕ) (f : Field) (before : List (List ℕ)) → i < length fields → f ≡ get_or fields i f → is_named connection (named_value f) ≡ false
    → before ≡ names_so_far fields i → before ≡ names_so_far fields (i + 1)
names_without fields i f before within is other so_far =
    so_far ∙ sym (names_so_far-more fields i f within is ∙ ap (λ b. names_so_far fields i ++ (if b then members f.value else [])) other ∙ append-nil (names_so_far fields i))

pub all_names : (fields : List Field) (i : ℕ) → length fields ≤ i → names_so_far fields i ≡ listed_names (map named_value fields)
unfolding names_so_far
all_names fields i whole = ap (λ some. listed_names (map named_value some)) (take_all i fields whole)
