-- A text is read as an attribute in one way.
use Rattle.std.proofs.Common.{◌≡◌, ℕ, Bool, true, false, not, ◌==◌, List, [], ◌∷◌, ◌++◌, refl, sym, ◌∙◌, ap, subst, Option, Some, None}
use Rattle.std.proofs.lemmas.List.{append_cancel_left}
use Rattle.std.proofs.lemmas.Bool.{false≢true}
use Rattle.html_rewrite.specs.declared.attribute.Quote.{Quote}
use Rattle.html_rewrite.specs.Bytes.{greater, equals, is_blank, is_gap, IsRun}
use Rattle.html_rewrite.specs.Tags.{Assignment, Attribute, IsAssigned, IsAssignedIfAny, IsAttribute, IsInside, assigns, assigned_text, attribute_text, inside_text, is_attribute_byte, is_value_byte, quote_at, quote_text, value_text}
use Rattle.html_rewrite.proofs.Runs.{run_unique}

values_unique : (q p : Quote) (v w r s : List ℕ) → q ≡ p → IsRun (is_value_byte q) v (quote_text q ++ r) → IsRun (is_value_byte p) w (quote_text p ++ s) → quote_text q ++ (v ++ (quote_text q ++ r)) ≡ quote_text p ++ (w ++ (quote_text p ++ s)) → (v ≡ w) × (r ≡ s)
values_unique q p v w r s e run other same =
    let other' = subst (λ (x : Quote). IsRun (is_value_byte x) w (quote_text x ++ s)) (sym e) other in
    let same' : quote_text q ++ (v ++ (quote_text q ++ r)) ≡ quote_text q ++ (w ++ (quote_text q ++ s)) = same ∙ ap (λ x. quote_text x ++ (w ++ (quote_text x ++ s))) (sym e) in
    let found = run_unique (is_value_byte q) v w (quote_text q ++ r) (quote_text q ++ s) run other' (append_cancel_left (quote_text q) (v ++ (quote_text q ++ r)) (w ++ (quote_text q ++ s)) same') in
    (found.0, append_cancel_left (quote_text q) r s found.1)

pub tails : (b c : ℕ) (t u : List ℕ) → b ∷ t ≡ c ∷ u → t ≡ u
tails b c t u e = cc

pub heads : (b c : ℕ) (t u : List ℕ) → b ∷ t ≡ c ∷ u → b ≡ c
heads b c t u e = cc

-- what gives a value is read in one way
pub assignment_unique : (a b : Assignment) (r s : List ℕ) → IsAssigned a r → IsAssigned b s → assigned_text (Some a) r ≡ assigned_text (Some b) s → (a ≡ b) × (r ≡ s)
assignment_unique a b r s x y e =
    let one = run_unique is_blank a.before b.before (equals ∷ (a.after ++ value_text a r)) (equals ∷ (b.after ++ value_text b s)) x.before y.before e in
    let two = run_unique is_blank a.after b.after (value_text a r) (value_text b s) x.after y.after (tails equals equals (a.after ++ value_text a r) (b.after ++ value_text b s) one.1) in
    let quotes : a.quote ≡ b.quote = sym x.quote ∙ ap quote_at two.1 ∙ y.quote in
    let three = values_unique a.quote b.quote a.value b.value r s quotes x.value y.value two.1 in
    let befores : a.before ≡ b.before = one.0 in
    let afters : a.after ≡ b.after = two.0 in
    let values : a.value ≡ b.value = three.0 in
    ((λ i. record { before = befores i; after = afters i; quote = quotes i; value = values i }), three.1)

assigns_run : (f r : List ℕ) → IsRun is_blank f (equals ∷ r) → assigns (f ++ (equals ∷ r)) ≡ true
assigns_run [] r u = refl
assigns_run (b ∷ f) r u =
    let blank : is_blank b ≡ true = blank_of (is_blank b) u.0 in
    rw blank (assigns_run f r u.1)
  where
    blank_of : (v : Bool) → not v ≡ false → v ≡ true
    blank_of true h = refl
    blank_of false h = absurd (false≢true (sym h))

-- `=` follows where a value is assigned
pub assigned_assigns : (a : Assignment) (r : List ℕ) → IsAssigned a r → assigns (assigned_text (Some a) r) ≡ true
assigned_assigns a r x = assigns_run a.before (a.after ++ value_text a r) x.before

pub assigned_unique : (a b : Option Assignment) (r s : List ℕ) → IsAssignedIfAny a r → IsAssignedIfAny b s → assigned_text a r ≡ assigned_text b s → (a ≡ b) × (r ≡ s)
assigned_unique None None r s x y e = (refl, e)
assigned_unique None (Some b) r s x y e = absurd (false≢true (sym x ∙ ap assigns e ∙ assigned_assigns b s y))
assigned_unique (Some a) None r s x y e = absurd (false≢true (sym y ∙ ap assigns (sym e) ∙ assigned_assigns a r x))
assigned_unique (Some a) (Some b) r s x y e =
    let found = assignment_unique a b r s x y e in
    (ap Some found.0, found.1)

-- an attribute is read in one way
pub attribute_unique : (a b : Attribute) (r s : List ℕ) → IsAttribute a r → IsAttribute b s → attribute_text a r ≡ attribute_text b s → (a ≡ b) × (r ≡ s)
attribute_unique a b r s x y e =
    let one = run_unique is_gap a.gap b.gap (a.first ∷ (a.others ++ assigned_text a.assigned r)) (b.first ∷ (b.others ++ assigned_text b.assigned s)) x.gap y.gap e in
    let two = run_unique is_attribute_byte a.others b.others (assigned_text a.assigned r) (assigned_text b.assigned s) x.name y.name (tails a.first b.first (a.others ++ assigned_text a.assigned r) (b.others ++ assigned_text b.assigned s) one.1) in
    let three = assigned_unique a.assigned b.assigned r s x.assigned y.assigned two.1 in
    let gaps : a.gap ≡ b.gap = one.0 in
    let firsts : a.first ≡ b.first = heads a.first b.first (a.others ++ assigned_text a.assigned r) (b.others ++ assigned_text b.assigned s) one.1 in
    let otherss : a.others ≡ b.others = two.0 in
    let assigneds : a.assigned ≡ b.assigned = three.0 in
    ((λ i. record { gap = gaps i; first = firsts i; others = otherss i; assigned = assigneds i }), three.1)

-- the tag's end is no attribute
pub end_or_attribute : (a : Attribute) (r gap rest : List ℕ) → IsAttribute a r → IsRun is_gap gap (greater ∷ rest) → attribute_text a r ≡ gap ++ (greater ∷ rest) → ⊥
end_or_attribute a r gap rest x run e =
    let found = run_unique is_gap a.gap gap (a.first ∷ (a.others ++ assigned_text a.assigned r)) (greater ∷ rest) x.gap run e in
    let same : a.first ≡ greater = heads a.first greater (a.others ++ assigned_text a.assigned r) rest found.1 in
    let begun : (a.first == greater) ≡ false = x.begun in
    let equal : (a.first == greater) ≡ true = ap (λ b. b == greater) same in
    false≢true (sym begun ∙ equal)

-- the inside of a tag is read in one way
pub inside_unique : (xs ys : List Attribute) (gap gap' r s : List ℕ) → IsInside xs gap r → IsInside ys gap' s → inside_text xs gap r ≡ inside_text ys gap' s → (xs ≡ ys) × (gap ≡ gap') × (r ≡ s)
inside_unique [] [] gap gap' r s x y e =
    let found = run_unique is_gap gap gap' (greater ∷ r) (greater ∷ s) x.last y.last e in
    (refl, found.0, tails greater greater r s found.1)
inside_unique [] (b ∷ ys) gap gap' r s x y e = absurd (end_or_attribute b (inside_text ys gap' s) gap r y.each.0 x.last (sym e))
inside_unique (a ∷ xs) [] gap gap' r s x y e = absurd (end_or_attribute a (inside_text xs gap r) gap' s x.each.0 y.last e)
inside_unique (a ∷ xs) (b ∷ ys) gap gap' r s x y e =
    let found = attribute_unique a b (inside_text xs gap r) (inside_text ys gap' s) x.each.0 y.each.0 e in
    let rest = inside_unique xs ys gap gap' r s (record { each = x.each.1; last = x.last }) (record { each = y.each.1; last = y.last }) found.1 in
    let firsts : a ≡ b = found.0 in
    let others : xs ≡ ys = rest.0 in
    ((λ i. firsts i ∷ others i), rest.1, rest.2)
