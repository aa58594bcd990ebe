-- The entries that meet a query, one at a time.
use Rattle.std.proofs.Common.{◌≡◌, ℕ, zero, suc, ◌+◌, ◌-◌, ◌^◌, ◌<◌, ◌≤◌, Bool, true, List, [], ◌∷◌, ◌++◌, length, length-append, take, drop, append_assoc, refl, sym, ap, ◌∙◌, arith}
use Rattle.std.specs.Prelude.{filter, min}
use Rattle.std.specs.List.{flat_map}
use Rattle.std.proofs.lemmas.Bool.{cond-true, cond_both}
use Rattle.std.proofs.lemmas.List.{append-nil, take_all}
use Rattle.index_entry.specs.Facts.{Facts}
use Rattle.cdxj_line.specs.Lengths.{capped}
use Rattle.cdx_query.specs.Answers.{answer_text, item_text}
use Rattle.cdx_query.specs.Passing.{IsPartOf, rest_text}
use Rattle.cdx_query.specs.Picking.{limited, meets}
use Rattle.cdx_query.specs.declared.query.Query.{Query}

pub shorter : (p : Facts → Bool) (xs : List Facts) → length (filter p xs) ≤ length xs
shorter p [] = omega arith
shorter p (x ∷ xs) =
    let rest = shorter p xs in
    cond_both (p x) (x ∷ filter p xs) (filter p xs) (λ (ys : List Facts). length ys ≤ length (x ∷ xs)) (λ _. omega (arith, rest)) (λ _. omega (arith, rest))

-- no more than there are
pub all_met : (p : Facts → Bool) (xs : List Facts) → filter p xs ≡ take (length xs) (filter p xs)
all_met p xs = sym (take_all (length xs) (filter p xs) (shorter p xs))

one_less : (n : ℕ) → suc n - 1 ≡ n
one_less n = omega arith

-- an entry that meets the query is the next to be answered
rest_met : (query : Query) (left : ℕ) (entry : Facts) (rest : List Facts) → meets query entry ≡ true → 0 < left
    → rest_text query left (entry ∷ rest) ≡ item_text query.json entry ++ rest_text query (left - 1) rest
rest_met query zero entry rest e some = absurd (omega (arith, some))
rest_met query (suc n) entry rest e some =
    let met = filter (meets query) rest in
    ap (λ (xs : List Facts). flat_map (item_text query.json) (take (suc n) xs)) (cond-true (meets query entry) (entry ∷ met) met e)
    ∙ ap (λ k. item_text query.json entry ++ flat_map (item_text query.json) (take k met)) (sym (one_less n))

pub put_more : (query : Query) (left : ℕ) (entry : Facts) (rest : List Facts) (old new : List ℕ) → meets query entry ≡ true → 0 < left → new ≡ old ++ item_text query.json entry
    → new ++ rest_text query (left - 1) rest ≡ old ++ rest_text query left (entry ∷ rest)
put_more query left entry rest old new e some written =
    ap (λ t. t ++ rest_text query (left - 1) rest) written ∙ append_assoc old (item_text query.json entry) (rest_text query (left - 1) rest)
    ∙ ap (λ t. old ++ t) (sym (rest_met query left entry rest e some))

pub count_more : (query : Query) (left len item sum : ℕ) (entry : Facts) (rest : List Facts) (whole : ℕ) → meets query entry ≡ true → 0 < left
    → item ≡ capped (length (item_text query.json entry)) → sum ≡ min (len + item) (2 ^ 64 - 1) → IsPartOf query len left (entry ∷ rest) whole → IsPartOf query sum (left - 1) rest whole
count_more query left len item sum entry rest whole e some item_is sum_is part =
    let told = part.told in
    let long : length (rest_text query left (entry ∷ rest)) ≡ length (item_text query.json entry) + length (rest_text query (left - 1) rest) =
    ap length (rest_met query left entry rest e some) ∙ length-append (item_text query.json entry) (rest_text query (left - 1) rest) in
    let all = part.sum in
    record {
      done = part.done + length (item_text query.json entry);
      told = omega (arith, told, item_is, sum_is);
      sum = omega (arith, all, long);
    }

-- nothing is left where nothing more is to be answered
pub none_left : (query : Query) (left : ℕ) (entries : List Facts) → left ≡ 0 → rest_text query left entries ≡ []
none_left query left entries e = ap (λ n. rest_text query n entries) e

no_entries : (query : Query) (left : ℕ) → rest_text query left [] ≡ []
no_entries query zero = refl
no_entries query (suc n) = refl

-- or where no entry is left
pub past_all : (query : Query) (left i : ℕ) (entries : List Facts) → drop i entries ≡ [] → rest_text query left (drop i entries) ≡ []
past_all query left i entries e = ap (rest_text query left) e ∙ no_entries query left

pub whole_is : (query : Query) (most : ℕ) (entries : List Facts) → limited query.limit (filter (meets query) entries) ≡ take most (filter (meets query) entries)
    → rest_text query most entries ≡ answer_text query (filter (meets query) entries)
whole_is query most entries e = ap (flat_map (item_text query.json)) (sym e)

pub ended : (query : Query) (most : ℕ) (entries : List Facts) (rest old out : List ℕ) → limited query.limit (filter (meets query) entries) ≡ take most (filter (meets query) entries)
    → rest ≡ [] → out ++ rest ≡ old ++ rest_text query most entries → out ≡ old ++ answer_text query (filter (meets query) entries)
ended query most entries rest old out limit none e =
    sym (append-nil out) ∙ ap (λ t. out ++ t) (sym none) ∙ e ∙ ap (λ t. old ++ t) (whole_is query most entries limit)

pub counted : (query : Query) (most len left : ℕ) (entries rest : List Facts) → limited query.limit (filter (meets query) entries) ≡ take most (filter (meets query) entries)
    → rest_text query left rest ≡ [] → IsPartOf query len left rest (length (rest_text query most entries)) → len ≡ capped (length (answer_text query (filter (meets query) entries)))
counted query most len left entries rest limit none part =
    let nothing : length (rest_text query left rest) ≡ 0 = ap length none in
    let sum = part.sum in
    let done : part.done ≡ length (rest_text query most entries) = omega (arith, sum, nothing) in
    part.told ∙ ap capped (done ∙ ap length (whole_is query most entries limit))
