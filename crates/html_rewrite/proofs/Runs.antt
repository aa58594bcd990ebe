-- How far a part of a text goes is told by the text alone.
use Rattle.std.proofs.Common.{◌≡◌, ℕ, zero, suc, ◌+◌, ◌<◌, ◌≤◌, Bool, true, false, not, ◌||◌, cond, List, [], ◌∷◌, ◌++◌, length, take, drop, refl, sym, ◌∙◌, arith}
use Rattle.std.proofs.Math.Numerals.{one-add}
use Rattle.std.proofs.lemmas.List.{take-append-drop}
use Rattle.std.proofs.lemmas.Bool.{false≢true}
use Rattle.std.specs.List.{prefix_len}
use Rattle.html_rewrite.specs.Bytes.{is_empty, begins, IsUpTo, IsRun}

-- a text is cut at the first place that passes the test in one way
pub up_to_unique : (stops : List ℕ → Bool) (f f' r r' : List ℕ) → IsUpTo stops f r → IsUpTo stops f' r' → f ++ r ≡ f' ++ r' → (f ≡ f') × (r ≡ r')
up_to_unique stops [] [] r r' u u' e = (refl, e)
up_to_unique stops [] (b ∷ f') r r' u u' e =
    let here : stops (b ∷ f' ++ r') ≡ true = rw e at u in
    let there : stops (b ∷ f' ++ r') ≡ false = u'.0 in
    absurd (false≢true (sym there ∙ here))
up_to_unique stops (b ∷ f) [] r r' u u' e =
    let back : r' ≡ b ∷ f ++ r = sym e in
    let here : stops (b ∷ f ++ r) ≡ true = rw back at u' in
    let there : stops (b ∷ f ++ r) ≡ false = u.0 in
    absurd (false≢true (sym there ∙ here))
up_to_unique stops (b ∷ f) (c ∷ f') r r' u u' e =
    let head : b ≡ c = cc in
    let tail : f ++ r ≡ f' ++ r' = cc in
    let rest = up_to_unique stops f f' r r' u.1 u'.1 tail in
    let fronts : f ≡ f' = rest.0 in
    (cc, rest.1)

-- what stands behind is nothing or passes the test
pub up_to_stops : (stops : List ℕ → Bool) (f r : List ℕ) → IsUpTo stops f r → (is_empty r || stops r) ≡ true
up_to_stops stops [] r u = u
up_to_stops stops (b ∷ f) r u = up_to_stops stops f r u.1

run_more : (test : ℕ → Bool) (b : ℕ) (t : List ℕ) (n : ℕ) → test b ≡ true → IsRun test (take n t) (drop n t) → IsRun test (take (1 + n) (b ∷ t)) (drop (1 + n) (b ∷ t))
run_more test b t n e u = rw (one-add n) (rw e refl, u)

-- the longest run, by its length
pub run_at : (test : ℕ → Bool) (t : List ℕ) → IsRun test (take (prefix_len test t) t) (drop (prefix_len test t) t)
run_at test [] = refl
run_at test (b ∷ t) =
    elim (test b) as (λ v. test b ≡ v → IsRun test (take (cond v (1 + prefix_len test t) 0) (b ∷ t)) (drop (cond v (1 + prefix_len test t) 0) (b ∷ t))) [
      | true ↦ λ e. run_more test b t (prefix_len test t) e (run_at test t)
      | false ↦ λ e. rw e refl
    ]
    refl

-- a front, by its length: no place before it passes the test, and its end does
pub up_to_at : (stops : List ℕ → Bool) (n : ℕ) (t : List ℕ) → n ≤ length t → ((k : ℕ) → k < n → stops (drop k t) ≡ false) → (is_empty (drop n t) || stops (drop n t)) ≡ true → IsUpTo stops (take n t) (drop n t)
up_to_at stops zero t within before ends = ends
up_to_at stops (suc n) [] within before ends = absurd (omega arith)
up_to_at stops (suc n) (b ∷ t) within before ends =
    let here : stops (b ∷ t) ≡ false = before 0 (omega arith) in
    (rw (take-append-drop n t) here, up_to_at stops n t (omega arith) (λ k l. before (suc k) (omega arith)) ends)

-- a run is cut in one way
pub run_unique : (test : ℕ → Bool) (f f' r r' : List ℕ) → IsRun test f r → IsRun test f' r' → f ++ r ≡ f' ++ r' → (f ≡ f') × (r ≡ r')
run_unique test f f' r r' u u' e = up_to_unique (λ text. not (begins test text)) f f' r r' u u' e

-- a run is as long as the text says
pub run_is : (test : ℕ → Bool) (f r t : List ℕ) → IsRun test f r → t ≡ f ++ r → (f ≡ take (prefix_len test t) t) × (r ≡ drop (prefix_len test t) t)
run_is test f r t u e =
    run_unique test f (take (prefix_len test t) t) r (drop (prefix_len test t) t) u (run_at test t) (sym e ∙ sym (take-append-drop (prefix_len test t) t))
