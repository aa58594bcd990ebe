-- A text is one query at most.
use Rattle.std.proofs.Common.{◌≡◌, ℕ, ◌^◌, ◌<◌, Bool, true, false, List, [], ◌∷◌, bytes_eq, refl, sym, ap, ◌∙◌, arith}
use Rattle.std.specs.Prelude.{Option, Some, None, codes, if◌then◌else◌}
use Rattle.std.proofs.lemmas.Fmt.{decimal_injective}
use Rattle.std.proofs.lemmas.Option.{same_Some}
use Rattle.cdx_query.specs.Laws.{TextsAreOneQuery}
use Rattle.cdx_query.specs.Picking.{start_of}
use Rattle.cdx_query.specs.Reading.{IsKeyOf, IsKind, IsLimit, IsOutput, IsTime, kind_name, output_text}
use Rattle.cdx_query.specs.Values.{from_name, limit_name, match_type_name, output_name, parts_of, to_name, url_name, values_of}
use Rattle.cdx_query.specs.declared.query.MatchKind.{MatchKind}
use Rattle.cdx_query.specs.declared.query.MatchKind.TheVariants.{Exact, Prefix, Host, Domain}

one_key : (values : List (List ℕ)) (a b : List ℕ) → IsKeyOf values a → IsKeyOf values b → a ≡ b
one_key [] a b p q = absurd p
one_key (value ∷ []) a b p q = same_Some a b (sym p ∙ q)
one_key (value ∷ other ∷ values) a b p q = absurd p

-- the match type of a name
kind_told : List ℕ → MatchKind
kind_told name =
    if bytes_eq name (codes "exact") then Exact
    else (if bytes_eq name (codes "prefix") then Prefix else (if bytes_eq name (codes "host") then Host else Domain))

told : (kind : MatchKind) → kind_told (kind_name kind) ≡ kind
unfolding kind_told
told Exact = refl
told Prefix = refl
told Host = refl
told Domain = refl

one_name : (a b : MatchKind) → kind_name a ≡ kind_name b → a ≡ b
one_name a b e = sym (told a) ∙ ap kind_told e ∙ told b

one_kind : (values : List (List ℕ)) (a b : MatchKind) → IsKind values a → IsKind values b → a ≡ b
one_kind [] a b p q = p ∙ sym q
one_kind (value ∷ []) a b p q = one_name a b (sym p ∙ q)
one_kind (value ∷ other ∷ values) a b p q = absurd p

one_time : (values : List (List ℕ)) (a b : Option (List ℕ)) → IsTime values a → IsTime values b → a ≡ b
one_time [] a b p q = p ∙ sym q
one_time (value ∷ []) a b p q = p.0 ∙ sym q.0
one_time (value ∷ other ∷ values) a b p q = absurd p

one_limit : (values : List (List ℕ)) (a b : Option ℕ) → IsLimit values a → IsLimit values b → a ≡ b
one_limit [] a b p q = p ∙ sym q
one_limit (value ∷ []) (Some a) (Some b) p q =
    let fits_a : a < 2 ^ 64 = omega (arith, p.to) in
    let fits_b : b < 2 ^ 64 = omega (arith, q.to) in
    ap (λ n. Some n) (decimal_injective a b fits_a fits_b (sym p.digits ∙ q.digits))
one_limit (value ∷ []) None b p q = absurd p
one_limit (value ∷ []) (Some a) None p q = absurd q
one_limit (value ∷ other ∷ values) a b p q = absurd p

-- whether the output of a name is JSON
json_told : List ℕ → Bool
json_told name = bytes_eq name (codes "json")

output_told : (json : Bool) → json_told (output_text json) ≡ json
unfolding json_told
output_told true = refl
output_told false = refl

one_output : (values : List (List ℕ)) (a b : Bool) → IsOutput values a → IsOutput values b → a ≡ b
one_output [] a b p q = p ∙ sym q
one_output (value ∷ []) a b p q = sym (output_told a) ∙ ap json_told (sym p ∙ q) ∙ output_told b
one_output (value ∷ other ∷ values) a b p q = absurd p

pub texts_are_one_query : TextsAreOneQuery
texts_are_one_query text a b p q =
    let key = one_key (values_of url_name (parts_of text)) a.key b.key p.key q.key in
    let kind = one_kind (values_of match_type_name (parts_of text)) a.kind b.kind p.kind q.kind in
    let from = one_time (values_of from_name (parts_of text)) a.from b.from p.from q.from in
    let to = one_time (values_of to_name (parts_of text)) a.to b.to p.to q.to in
    let limit = one_limit (values_of limit_name (parts_of text)) a.limit b.limit p.limit q.limit in
    let json = one_output (values_of output_name (parts_of text)) a.json b.json p.output q.output in
    let start : a.start ≡ b.start = p.start ∙ ap (λ k. start_of k a.key) kind ∙ ap (start_of b.kind) key ∙ sym q.start in
    λ i. record { key = key i; start = start i; kind = kind i; from = from i; to = to i; limit = limit i; json = json i }
