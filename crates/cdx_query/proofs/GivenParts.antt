-- The parts that give a value to a name, one more at a time.
use Rattle.std.proofs.Common.{◌≡◌, ℕ, ◌+◌, ◌<◌, ◌≤◌, Bool, true, List, [], ◌∷◌, ◌++◌, length, get_or, take, map, refl, sym, ap, ◌∙◌, subst, arith}
use Rattle.std.specs.Prelude.{filter}
use Rattle.std.specs.Borrow.{Bor}
use Rattle.std.proofs.lemmas.Bool.{and_parts, false≢true}
use Rattle.std.proofs.Common.{eqb, inl}
use Rattle.index_entry.proofs.Members.{Among, Among-filter}
use Rattle.std.proofs.lemmas.List.{map-append, take_more}
use Rattle.std.proofs.lemmas.List.Elements.{filter-append}
use Rattle.std.proofs.lemmas.Bool.{cond-true}
use Rattle.cdx_query.specs.Given.{IsGiven}
use Rattle.cdx_query.specs.Values.{gives}
use Rattle.cdx_query.specs.declared.parts.Given.{Given}

pub given_more : (p : List ℕ → Bool) (xs : List (Bor (List ℕ))) (i : ℕ) (d : Bor (List ℕ)) → i < length xs
    → filter p (map (λ x. x.now) (take (i + 1) xs)) ≡ filter p (map (λ x. x.now) (take i xs)) ++ filter p ((get_or xs i d).now ∷ [])
given_more p xs i d below =
    ap (λ (ys : List (Bor (List ℕ))). filter p (map (λ x. x.now) ys)) (take_more xs i d below)
    ∙ ap (filter p) (map-append (λ (x : Bor (List ℕ)). x.now) (take i xs) (get_or xs i d ∷ []))
    ∙ filter-append p (map (λ x. x.now) (take i xs)) ((get_or xs i d).now ∷ [])

pub given_part : (name part : List ℕ) (giving : List (List ℕ)) (given : Given) → gives name part ≡ true → IsGiven (giving ++ part ∷ []) given → IsGiven (giving ++ filter (gives name) (part ∷ [])) given
given_part name part giving given e is =
    subst (λ (xs : List (List ℕ)). IsGiven (giving ++ xs) given) (sym (cond-true (gives name part) (part ∷ []) [] e)) is

begins_long : (a text : List ℕ) → gives a text ≡ true → length a ≤ length text
begins_long [] text e = omega arith
begins_long (x ∷ a) [] e = absurd (false≢true e)
begins_long (x ∷ a) (y ∷ text) e =
    let rest = begins_long a text (and_parts (eqb x y) (gives a text) e).1 in
    omega (arith, rest)

-- the one part that gives a value begins with the name
pub given_long : (name part : List ℕ) (parts : List (List ℕ)) → filter (gives name) parts ≡ part ∷ [] → length name ≤ length part
given_long name part parts e =
    let among : Among (filter (gives name) parts) part = subst (λ (xs : List (List ℕ)). Among xs part) (sym e) (inl refl) in
    begins_long name part (Among-filter (gives name) parts part among).1
