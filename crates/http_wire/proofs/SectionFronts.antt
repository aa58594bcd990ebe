-- A trailer section that has ended stays so, however the text goes on.
use Rattle.std.proofs.Common.{◌≡◌, ℕ, ◌+◌, ◌≤◌, Bool, true, false, ◌&&◌, List, [], ◌∷◌, ◌++◌, length, Option, Some, None, refl, ap, ◌∙◌, arith, eqb, if◌then◌else◌}
use Rattle.std.specs.Prelude.{nat_lt, option_map}
use Rattle.capture.specs.Head.{begins_with_lf, empty_line_len, head_len, section_len}

-- ---- ends stay

-- a text whose first two bytes are there tells at its front what it told
further : (test : Bool) (k : ℕ) (old new : Option ℕ) (n : ℕ) → ((m : ℕ) → old ≡ Some m → new ≡ Some m)
    → (if test then Some k else option_map (λ n. 1 + n) old) ≡ Some n → (if test then Some k else option_map (λ n. 1 + n) new) ≡ Some n
further true k old new n stays e = e
further false k None new n stays e = absurd cc
further false k (Some m) new n stays e = ap (option_map (λ n. 1 + n)) (stays m refl) ∙ e

-- two bytes are an end only where both are LF
two : (lf other cr more : Bool) (later : Option ℕ) (n : ℕ)
    → (if lf && nat_lt 0 (if other then 1 else (if cr && false then 2 else 0))
    then Some (1 + (if other then 1 else (if cr && false then 2 else 0)))
    else option_map (λ n. 1 + n) (if other && nat_lt 0 0 then Some (1 + 0) else option_map (λ n. 1 + n) None)) ≡ Some n
    → (if lf && nat_lt 0 (if other then 1 else (if cr && more then 2 else 0))
    then Some (1 + (if other then 1 else (if cr && more then 2 else 0))) else later) ≡ Some n
two true true cr more later n e = e
two true false true more later n e = absurd cc
two true false false more later n e = absurd cc
two false true cr more later n e = absurd cc
two false false cr more later n e = absurd cc

one : (lf : Bool) (n : ℕ) → (if lf && nat_lt 0 0 then Some (1 + 0) else option_map (λ n. 1 + n) None) ≡ Some n → ⊥
one true n e = cc
one false n e = cc

head_stays : (s more : List ℕ) (n : ℕ) → head_len s ≡ Some n → head_len (s ++ more) ≡ Some n
head_stays [] more n e = absurd cc
head_stays (b ∷ []) more n e = absurd (one (eqb b 10) n e)
head_stays (b ∷ c ∷ []) more n e = two (eqb b 10) (eqb c 10) (eqb c 13) (begins_with_lf more) (option_map (λ n. 1 + n) (head_len (c ∷ more))) n e
head_stays (b ∷ c ∷ d ∷ s) more n e =
    further (eqb b 10 && nat_lt 0 (empty_line_len (c ∷ d ∷ s))) (1 + empty_line_len (c ∷ d ∷ s)) (head_len (c ∷ d ∷ s)) (head_len (c ∷ d ∷ s ++ more)) n
    (λ m is. head_stays (c ∷ d ∷ s) more m is) e

single : (lf cr more : Bool) (later : Option ℕ) (n : ℕ)
    → (if nat_lt 0 (if lf then 1 else (if cr && false then 2 else 0)) then Some (if lf then 1 else (if cr && false then 2 else 0))
    else (if lf && nat_lt 0 0 then Some (1 + 0) else option_map (λ n. 1 + n) None)) ≡ Some n
    → (if nat_lt 0 (if lf then 1 else (if cr && more then 2 else 0)) then Some (if lf then 1 else (if cr && more then 2 else 0))
    else later) ≡ Some n
single true cr more later n e = e
single false true more later n e = absurd cc
single false false more later n e = absurd cc

either : (test : Bool) (k : ℕ) (old new : Option ℕ) (n : ℕ) → ((m : ℕ) → old ≡ Some m → new ≡ Some m)
    → (if test then Some k else old) ≡ Some n → (if test then Some k else new) ≡ Some n
either true k old new n stays e = e
either false k old new n stays e = stays n e

pub section_stays : (s more : List ℕ) (n : ℕ) → section_len s ≡ Some n → section_len (s ++ more) ≡ Some n
section_stays [] more n e = absurd cc
section_stays (b ∷ []) more n e = single (eqb b 10) (eqb b 13) (begins_with_lf more) (head_len (b ∷ more)) n e
section_stays (b ∷ c ∷ s) more n e =
    either (nat_lt 0 (empty_line_len (b ∷ c ∷ s))) (empty_line_len (b ∷ c ∷ s)) (head_len (b ∷ c ∷ s)) (head_len (b ∷ c ∷ s ++ more)) n
    (λ m is. head_stays (b ∷ c ∷ s) more m is) e

-- ---- ends lie inside

one_fits : (lf cr : Bool) → (if lf then 1 else (if cr && false then 2 else 0)) ≤ 1
one_fits true cr = omega arith
one_fits false true = omega arith
one_fits false false = omega arith

two_fit : (lf cr : Bool) (many : ℕ) → 2 ≤ many → (if lf then 1 else (if cr then 2 else 0)) ≤ many
two_fit true cr many some = omega (arith, some)
two_fit false true many some = some
two_fit false false many some = omega arith

empty_fits : (s : List ℕ) → empty_line_len s ≤ length s
empty_fits [] = omega arith
empty_fits (b ∷ []) = one_fits (eqb b 10) (eqb b 13)
empty_fits (b ∷ c ∷ s) = two_fit (eqb b 10) (eqb b 13 && begins_with_lf (c ∷ s)) (length (b ∷ c ∷ s)) (omega arith)

inside : (test : Bool) (k : ℕ) (found : Option ℕ) (n many : ℕ) → k ≤ many → ((m : ℕ) → found ≡ Some m → 1 + m ≤ many)
    → (if test then Some k else option_map (λ n. 1 + n) found) ≡ Some n → n ≤ many
inside true k found n many fits others e = let same : k ≡ n = cc in omega (arith, same, fits)
inside false k None n many fits others e = absurd cc
inside false k (Some m) n many fits others e = let same : 1 + m ≡ n = cc in omega (arith, same, others m refl)

head_fits : (s : List ℕ) (n : ℕ) → head_len s ≡ Some n → n ≤ length s
head_fits [] n e = absurd cc
head_fits (b ∷ s) n e =
    inside (eqb b 10 && nat_lt 0 (empty_line_len s)) (1 + empty_line_len s) (head_len s) n (length (b ∷ s))
    (omega (arith, empty_fits s)) (λ m is. omega (arith, head_fits s m is)) e

within : (test : Bool) (k : ℕ) (found : Option ℕ) (n many : ℕ) → k ≤ many → ((m : ℕ) → found ≡ Some m → m ≤ many)
    → (if test then Some k else found) ≡ Some n → n ≤ many
within true k found n many fits others e = let same : k ≡ n = cc in omega (arith, same, fits)
within false k found n many fits others e = others n e

pub section_fits : (s : List ℕ) (n : ℕ) → section_len s ≡ Some n → n ≤ length s
section_fits s n e =
    within (nat_lt 0 (empty_line_len s)) (empty_line_len s) (head_len s) n (length s) (empty_fits s) (λ m is. head_fits s m is) e
