-- Behind a tag's name stands the inside of a tag, or none.
use Rattle.std.proofs.Common.{◌≡◌, ℕ, zero, suc, ◌+◌, ◌<◌, true, false, not, ◌==◌, ◌⊎◌, List, [], ◌∷◌, ◌++◌, length, take, drop, refl, sym, ◌∙◌, ap, subst, inl, inr, arith, Some, None}
use Rattle.std.proofs.lemmas.List.{length-append, take-append-drop}
use Rattle.std.proofs.lemmas.Bool.{cases_lt, eqb-true}
use Rattle.std.specs.List.{prefix_len}
use Rattle.html_rewrite.specs.Bytes.{greater, begins, is_gap, IsRun}
use Rattle.html_rewrite.specs.steps.Reading.{BeginsAttribute, HasInside, IsValueAt, LacksInside, sign_len}
use Rattle.html_rewrite.specs.Tags.{Attribute, IsAttribute, IsInside, attribute_text, inside_text, is_attribute_byte, is_value_byte, quote_at, quote_text}
use Rattle.html_rewrite.proofs.Attributes.{attribute_unique, end_or_attribute}
use Rattle.html_rewrite.proofs.Runs.{run_at, run_is}
use Rattle.html_rewrite.proofs.Steps.{IsNamed, name_at, named_attribute, named_is_attribute, named_text, no_end_behind}
use Rattle.html_rewrite.proofs.TagLemmas.{assigned_longer}
use Rattle.html_rewrite.proofs.Values.{sign_missing, value_found, value_unclosed}

abbrev pub IsTold : List ℕ → Type 0
IsTold t = HasInside t ⊎ LacksInside t

-- behind an attribute it goes on, or it doesn't
attribute_first : (t u : List ℕ) (a : Attribute) → IsAttribute a u → t ≡ attribute_text a u → IsTold u → IsTold t
attribute_first t u a is parts told =
    elim told [
      | inl h ↦ inl (record {
        attributes = a ∷ h.attributes;
        gap = h.gap;
        rest = h.rest;
        inside = record { each = (subst (λ (x : List ℕ). IsAttribute a x) h.parts is, h.inside.each); last = h.inside.last };
        parts = parts ∙ ap (attribute_text a) h.parts;
      })
      | inr none ↦ inr (back none)
    ]
  where
    back : LacksInside u → (attributes : List Attribute) (gap rest : List ℕ) → IsInside attributes gap rest → t ≡ inside_text attributes gap rest → ⊥
    back none [] gap rest inside e = end_or_attribute a u gap rest is inside.last (sym parts ∙ e)
    back none (b ∷ attributes) gap rest inside e =
        let found = attribute_unique a b u (inside_text attributes gap rest) is inside.each.0 (sym parts ∙ e) in
        none attributes gap rest (record { each = inside.each.1; last = inside.last }) found.1

-- the text ends behind the gap
ends_here : (t : List ℕ) → drop (prefix_len is_gap t) t ≡ [] → LacksInside t
ends_here t end = none
  where
    nothing : (gap behind : List ℕ) (b : ℕ) → IsRun is_gap gap (b ∷ behind) → t ≡ gap ++ (b ∷ behind) → ⊥
    nothing gap behind b run e =
        let found = run_is is_gap gap (b ∷ behind) t run e in
        omega (arith, ap length (found.1 ∙ end))

    none : (attributes : List Attribute) (gap rest : List ℕ) → IsInside attributes gap rest → t ≡ inside_text attributes gap rest → ⊥
    none [] gap rest inside e = nothing gap rest greater inside.last e
    none (a ∷ attributes) gap rest inside e = nothing a.gap _ a.first inside.each.0.gap e

-- the tag ends behind the gap
closes_here : (t rest : List ℕ) → drop (prefix_len is_gap t) t ≡ greater ∷ rest → HasInside t
closes_here t rest split =
    let n = prefix_len is_gap t in
    record {
      attributes = [];
      gap = take n t;
      rest = rest;
      inside = record { each = tt; last = subst (λ (x : List ℕ). IsRun is_gap (take n t) x) split (run_at is_gap t) };
      parts = sym (take-append-drop n t) ∙ ap (λ x. take n t ++ x) split;
    }

-- what is told of every shorter text
abbrev pub ShorterAreTold : List ℕ → Type 0
ShorterAreTold t = (u : List ℕ) → length u < length t → IsTold u

named_shorter : (t name behind : List ℕ) (len : ℕ) → IsNamed t len name behind → length behind < length t
named_shorter t name behind len n =
    omega (arith, ap length n.parts, length-append (take len t) (n.first ∷ (n.others ++ behind)), length-append n.others behind)

-- an attribute without a value
no_value : (t name behind : List ℕ) (len : ℕ) → IsNamed t len name behind → sign_len behind ≡ 0 → ShorterAreTold t → IsTold t
no_value t name behind len n none shorter =
    attribute_first t behind (named_attribute t len name behind n None) (named_is_attribute t len name behind n None behind refl (sign_missing behind none)) (named_text t len name behind n None behind refl) (shorter behind (named_shorter t name behind len n))

-- an attribute with its value
with_value : (t name behind : List ℕ) (len lead size closing : ℕ) → IsNamed t len name behind → IsValueAt behind lead size closing → ShorterAreTold t → IsTold t
with_value t name behind len lead size closing n v shorter =
    let some = Some v.assignment in
    let fewer : length v.rest < length t = omega (arith, ap length v.parts, assigned_longer some v.rest, named_shorter t name behind len n) in
    attribute_first t v.rest (named_attribute t len name behind n some) (named_is_attribute t len name behind n some v.rest v.parts v.assigned) (named_text t len name behind n some v.rest v.parts) (shorter v.rest fewer)

-- an attribute whose value has its end or not
signed_value : (t name behind : List ℕ) (len : ℕ) → IsNamed t len name behind → 0 < sign_len behind → ShorterAreTold t → IsTold t
signed_value t name behind len n signed shorter =
    let m = sign_len behind in
    let q = quote_at (drop m behind) in
    let c = length (quote_text q) in
    let inner = drop c (drop m behind) in
    let k = prefix_len (is_value_byte q) inner in
    elim (cases_lt (length inner) (k + c)) [
      | inl short ↦ inr (no_end_behind t name behind len n (value_unclosed behind m c k q refl signed refl refl refl short))
      | inr fits ↦ with_value t name behind len (m + c) k c n (value_found behind m c k q refl signed refl refl refl fits) shorter
    ]

-- an attribute
attribute_here : (t : List ℕ) (b : ℕ) (u : List ℕ) → drop (prefix_len is_gap t) t ≡ b ∷ u → (b == greater) ≡ false → ShorterAreTold t → IsTold t
attribute_here t b u split other shorter =
    let len = prefix_len is_gap t in
    let first : begins (λ (x : ℕ). not (x == greater)) (drop len t) ≡ true = ap (begins (λ (x : ℕ). not (x == greater))) split ∙ ap not other in
    let begun : BeginsAttribute t len = record { run = refl; first = first } in
    let name = take (1 + prefix_len is_attribute_byte (drop 1 (drop len t))) (drop len t) in
    let behind = drop (prefix_len is_attribute_byte (drop 1 (drop len t))) (drop 1 (drop len t)) in
    let n = name_at t len begun in
    elim (cases_lt 0 (sign_len behind)) [
      | inl signed ↦ signed_value t name behind len n signed shorter
      | inr none ↦ let zero_len : sign_len behind ≡ 0 = omega (arith, none) in no_value t name behind len n zero_len shorter
    ]

told_from : (t : List ℕ) → ShorterAreTold t → IsTold t
told_from t shorter = by_behind (drop (prefix_len is_gap t) t) refl
  where
    by_behind : (v : List ℕ) → drop (prefix_len is_gap t) t ≡ v → IsTold t
    by_behind [] e = inr (ends_here t e)
    by_behind (b ∷ u) e =
        elim (b == greater) as (λ v. (b == greater) ≡ v → IsTold t) [
          | true ↦ λ g. inl (closes_here t u (e ∙ ap (λ x. x ∷ u) (eqb-true b greater g)))
          | false ↦ λ g. attribute_here t b u e g shorter
        ]
        refl

told_within : (fuel : ℕ) (t : List ℕ) → length t < fuel → IsTold t
told_within zero t within = absurd (omega (arith, within))
told_within (suc fuel) t within = told_from t (λ u fewer. told_within fuel u (omega (arith, within, fewer)))

-- whether the inside of a tag stands here
pub inside_told : (t : List ℕ) → IsTold t
inside_told t = told_within (length t + 1) t (omega arith)
