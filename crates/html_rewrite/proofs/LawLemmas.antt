-- A page is read in one way.
use Rattle.std.proofs.Common.{◌≡◌, ℕ, Bool, true, false, not, List, [], ◌∷◌, ◌++◌, length, take, drop, refl, sym, ◌∙◌, ap, subst, arith, codes}
use Rattle.std.proofs.lemmas.List.{append-nil, append_cancel_left, append_cancel_right, length-append, take_at, drop_at}
use Rattle.std.specs.Bool.{MatchBool}
use Rattle.std.specs.List.{flat_map}
use Rattle.html_rewrite.specs.declared.opening.Opening.{Opening}
use Rattle.html_rewrite.specs.declared.opening.Opening.TheVariants.{Comment, Declaration, EndTag, StartTag, Other}
use Rattle.html_rewrite.specs.Bytes.{IsUpTo, begins_with, is_name_end, less}
use Rattle.html_rewrite.specs.Names.{is_raw_text}
use Rattle.html_rewrite.specs.Pieces.{Piece}
use Rattle.html_rewrite.specs.Tags.{Tag, inside_text, tag_text}
use Rattle.html_rewrite.specs.Split.{Element, IsRawText, IsRead, IsSplit, IsThrough, Part, Takes, Untouched, ends_raw_text, opening_at, part_pieces, part_text}
use Rattle.html_rewrite.proofs.Runs.{run_unique, up_to_unique}
use Rattle.html_rewrite.proofs.Attributes.{inside_unique, tails}

through_unique : (opening : ℕ) (closer t u r s : List ℕ) → IsThrough opening closer t r → IsThrough opening closer u s → t ++ r ≡ u ++ s → (t ≡ u) × (r ≡ s)
through_unique opening closer t u r s x y e =
    let found = up_to_unique (begins_with closer) x.inner y.inner x.behind y.behind x.first y.first (sym x.inside ∙ ap (drop opening) e ∙ y.inside) in
    let rests : r ≡ s = x.ends ∙ ap (drop (length closer)) found.1 ∙ sym y.ends in
    (append_cancel_right t u s (ap (λ z. t ++ z) (sym rests) ∙ e), rests)

one_byte : (t u r s : List ℕ) → length t ≡ 1 → length u ≡ 1 → t ++ r ≡ u ++ s → (t ≡ u) × (r ≡ s)
one_byte t u r s x y e =
    (sym (take_at t r 1 x) ∙ ap (take 1) e ∙ take_at u s 1 y, sym (drop_at t r 1 x) ∙ ap (drop 1) e ∙ drop_at u s 1 y)

raw_unique : (raw_text : Bool) (element x y r s : List ℕ) → MatchBool raw_text (IsUpTo (ends_raw_text element) x r) (x ≡ []) → MatchBool raw_text (IsUpTo (ends_raw_text element) y s) (y ≡ []) → x ++ r ≡ y ++ s → (x ≡ y) × (r ≡ s)
raw_unique true element x y r s p q e = up_to_unique (ends_raw_text element) x y r s p q e
raw_unique false element x y r s p q e =
    let same : x ≡ y = p ∙ sym q in
    (same, append_cancel_left y r s (ap (λ z. z ++ r) (sym same) ∙ e))

element_unique : (a b : Tag) (x y r s : List ℕ) → Takes StartTag (Element a x) r → Takes StartTag (Element b y) s → tag_text a (x ++ r) ≡ tag_text b (y ++ s) → (Element a x ≡ Element b y) × (r ≡ s)
element_unique a b x y r s p q e =
    let one = run_unique (λ c. not (is_name_end c)) a.name b.name (inside_text a.attributes a.gap (x ++ r)) (inside_text b.attributes b.gap (y ++ s)) p.0.name q.0.name (tails less less (a.name ++ inside_text a.attributes a.gap (x ++ r)) (b.name ++ inside_text b.attributes b.gap (y ++ s)) e) in
    let two = inside_unique a.attributes b.attributes a.gap b.gap (x ++ r) (y ++ s) p.0.inside q.0.inside one.1 in
    let three = raw_unique (is_raw_text a.name) a.name x y r s p.1 (subst (λ (z : List ℕ). IsRawText z y s) (sym one.0) q.1) two.2 in
    let names : a.name ≡ b.name = one.0 in
    let attributess : a.attributes ≡ b.attributes = two.0 in
    let gaps : a.gap ≡ b.gap = two.1 in
    let raws : x ≡ y = three.0 in
    ((λ i. Element (record { name = names i; attributes = attributess i; gap = gaps i }) (raws i)), three.1)

untouched : (t u r s : List ℕ) → (t ≡ u) × (r ≡ s) → (Untouched t ≡ Untouched u) × (r ≡ s)
untouched t u r s e = (ap Untouched e.0, e.1)

part_unique : (opening : Opening) (x y : Part) (r s : List ℕ) → Takes opening x r → Takes opening y s → part_text x r ≡ part_text y s → (x ≡ y) × (r ≡ s)
part_unique Comment (Untouched t) (Untouched u) r s p q e = untouched t u r s (through_unique 4 (codes "-->") t u r s p q e)
part_unique Declaration (Untouched t) (Untouched u) r s p q e = untouched t u r s (through_unique 2 (codes ">") t u r s p q e)
part_unique EndTag (Untouched t) (Untouched u) r s p q e = untouched t u r s (through_unique 2 (codes ">") t u r s p q e)
part_unique Other (Untouched t) (Untouched u) r s p q e = untouched t u r s (one_byte t u r s p q e)
part_unique StartTag (Untouched t) (Untouched u) r s p q e =
    let rests : r ≡ s = p.1 ∙ sym q.1 in
    (ap Untouched (append_cancel_right t u s (ap (λ z. t ++ z) (sym rests) ∙ e)), rests)
part_unique StartTag (Untouched t) (Element b y) r s p q e =
    absurd (p.0 b (y ++ s) q.0 (sym (append-nil t) ∙ ap (λ z. t ++ z) (sym p.1) ∙ e))
part_unique StartTag (Element a x) (Untouched u) r s p q e =
    absurd (q.0 a (x ++ r) p.0 (sym (append-nil u) ∙ ap (λ z. u ++ z) (sym q.1) ∙ sym e))
part_unique StartTag (Element a x) (Element b y) r s p q e = element_unique a b x y r s p q e
part_unique Comment (Element a x) y r s p q e = absurd p
part_unique Declaration (Element a x) y r s p q e = absurd p
part_unique EndTag (Element a x) y r s p q e = absurd p
part_unique Other (Element a x) y r s p q e = absurd p
part_unique Comment (Untouched t) (Element b y) r s p q e = absurd q
part_unique Declaration (Untouched t) (Element b y) r s p q e = absurd q
part_unique EndTag (Untouched t) (Element b y) r s p q e = absurd q
part_unique Other (Untouched t) (Element b y) r s p q e = absurd q

nothing_opens : opening_at [] ≡ Other
unfolding opening_at
nothing_opens = refl

nothing_taken : (part : Part) (rest : List ℕ) → Takes Other part rest → [] ≡ part_text part rest → ⊥
nothing_taken (Untouched t) rest p e = omega (arith, p, ap length e, length-append t rest)
nothing_taken (Element tag raw) rest p e = p

no_part : (page : List ℕ) (part : Part) (rest : List ℕ) → page ≡ [] → page ≡ part_text part rest → Takes (opening_at page) part rest → ⊥
no_part page part rest empty e takes =
    nothing_taken part rest (subst (λ (x : Opening). Takes x part rest) (ap opening_at empty ∙ nothing_opens) takes) (sym empty ∙ e)

read_unique : (xs ys : List Part) (page page' : List ℕ) → page ≡ page' → IsRead xs page → IsRead ys page' → xs ≡ ys
read_unique [] [] page page' same p q = refl
read_unique [] (y ∷ ys) page page' same p q = absurd (no_part page' y q.0 (sym same ∙ p) q.1 q.2)
read_unique (x ∷ xs) [] page page' same p q = absurd (no_part page x p.0 (same ∙ q) p.1 p.2)
read_unique (x ∷ xs) (y ∷ ys) page page' same p q =
    let takes = subst (λ (z : List ℕ). Takes (opening_at z) y q.0) (sym same) q.2 in
    let found = part_unique (opening_at page) x y p.0 q.0 p.2 takes (sym p.1 ∙ same ∙ q.1) in
    let rest = read_unique xs ys p.0 q.0 found.1 p.3 q.3 in
    let firsts : x ≡ y = found.0 in
    λ i. firsts i ∷ rest i

pub split_unique : (page : List ℕ) (some others : List Piece) → IsSplit some page → IsSplit others page → some ≡ others
split_unique page some others p q = p.of_parts ∙ ap (flat_map part_pieces) (read_unique p.parts q.parts page page refl p.read q.read) ∙ sym q.of_parts
