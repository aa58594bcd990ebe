-- The parts of a line, and where they are cut.
use Rattle.std.proofs.Common.{◌≡◌, ◌≢◌, ℕ, suc, Bool, true, false, not, ◌==◌, List, [], ◌∷◌, ◌++◌, ◌+◌, length, take, drop, cond, refl, ap, ◌∙◌, sym, arith}
use Rattle.std.specs.Prelude.{All}
use Rattle.std.specs.List.{prefix_len}
use Rattle.std.proofs.lemmas.List.{append_assoc, take_at, drop_at}
use Rattle.std.proofs.lemmas.List.Elements.{All-head, All-tail}

-- one byte more that is no blank
one_more : (same : Bool) (n m : ℕ) → same ≡ false → n ≡ m → cond (not same) (1 + n) 0 ≡ suc m
one_more true n m other e = cc
one_more false n m other e = omega arith

apart : (a b : ℕ) → a ≢ b → (a == b) ≡ false
apart a b other = grind arith

-- the length of what stands before the first blank
front_before_blank : (front rest : List ℕ) → All (λ b. b ≢ 32) front → prefix_len (λ b. not (b == 32)) (front ++ 32 ∷ rest) ≡ length front
front_before_blank [] rest other = refl
front_before_blank (b ∷ front) rest other =
    one_more (b == 32) _ _ (apart b 32 (All-head (λ b. b ≢ 32) b front other)) (front_before_blank front rest (All-tail (λ b. b ≢ 32) b front other))

-- what stands before the first blank, and what begins with it
pub cut_before_blank : (text front rest before behind : List ℕ) (n : ℕ) → All (λ b. b ≢ 32) front → text ≡ front ++ 32 ∷ rest → n ≡ prefix_len (λ b. not (b == 32)) text → before ≡ take n text → behind ≡ drop n text
    → (before ≡ front) × (behind ≡ 32 ∷ rest)
cut_before_blank text front rest before behind n other is count take_is drop_is =
    let long : length front ≡ n = sym (count ∙ ap (prefix_len (λ b. not (b == 32))) is ∙ front_before_blank front rest other) in
    (take_is ∙ ap (take n) is ∙ take_at front (32 ∷ rest) n long, drop_is ∙ ap (drop n) is ∙ drop_at front (32 ∷ rest) n long)

-- six texts, put one behind the other
pub six_put : (a b c d e f o0 o1 o2 o3 o4 o5 o6 : List ℕ) → o1 ≡ o0 ++ a → o2 ≡ o1 ++ b → o3 ≡ o2 ++ c → o4 ≡ o3 ++ d → o5 ≡ o4 ++ e → o6 ≡ o5 ++ f
    → o6 ≡ o0 ++ (a ++ b ++ c ++ d ++ e ++ f)
six_put a b c d e f o0 o1 o2 o3 o4 o5 o6 h1 h2 h3 h4 h5 h6 =
    h6 ∙ ap (λ t. t ++ f) (h5 ∙ ap (λ t. t ++ e) (h4 ∙ ap (λ t. t ++ d) (h3 ∙ ap (λ t. t ++ c) (h2 ∙ ap (λ t. t ++ b) h1))))
    ∙ simp append_assoc
