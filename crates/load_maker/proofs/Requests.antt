-- The requests of a load, one after the other.
use Rattle.std.proofs.Common.{◌≡◌, ℕ, suc, ◌+◌, ◌-◌, ◌<◌, ◌≤◌, List, ◌++◌, append_assoc, append-nil, sym, ap, ◌∙◌, arith}
use Rattle.load_maker.specs.Load.{request_text, requests_text}

-- one request more was put
pub one_more : (out whole : List ℕ) (number to : ℕ) → number < to → out ++ requests_text number (to - number) ≡ whole
    → (out ++ request_text number) ++ requests_text (number + 1) (to - (number + 1)) ≡ whole
one_more out whole number to lt e =
    let left : to - number ≡ suc (to - (number + 1)) = omega (arith, lt) in
    append_assoc out (request_text number) (requests_text (number + 1) (to - (number + 1))) ∙ sym (ap (λ n. out ++ requests_text number n) left) ∙ e

-- no request is left
pub none_left : (out whole : List ℕ) (number to : ℕ) → to ≤ number → out ++ requests_text number (to - number) ≡ whole → out ≡ whole
none_left out whole number to le e =
    let left : to - number ≡ 0 = omega (arith, le) in
    sym (append-nil out) ∙ sym (ap (λ n. out ++ requests_text number n) left) ∙ e
