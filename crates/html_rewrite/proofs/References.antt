-- Texts without a byte that is read or written in another way.
use Rattle.std.proofs.Common.{◌≡◌, ℕ, suc, ◌<◌, Bool, true, false, ◌||◌, ◌==◌, List, [], ◌∷◌, get_or, length, refl, sym, ap, arith}
use Rattle.std.proofs.lemmas.Bool.{false≢true}
use Rattle.html_rewrite.specs.Bytes.{apostrophe}
use Rattle.html_rewrite.specs.Links.{ampersand, decoded, escaped}
use Rattle.html_rewrite.proofs.FirstBytes.{not_here}

neither : (v w : Bool) → (v || w) ≡ false → (v ≡ false) × (w ≡ false)
neither true w e = absurd (false≢true (sym e))
neither false w e = (refl, e)

-- a value without `&` is read as it stands
pub decoded_same : (text : List ℕ) → ((k : ℕ) → k < length text → (get_or text k 0 == ampersand) ≡ true → ⊥) → text ≡ decoded text
decoded_same [] none = refl
decoded_same (b ∷ text) none =
    let other : (b == ampersand) ≡ false = not_here (b == ampersand) (none 0 (omega arith)) in
    let rest : text ≡ decoded text = decoded_same text (λ k h. none (suc k) (omega (arith, h))) in
    rw other (ap (λ x. b ∷ x) rest)

-- an address without `&` and `'` is written as it stands
pub escaped_same : (text : List ℕ) → ((k : ℕ) → k < length text → (get_or text k 0 == ampersand || get_or text k 0 == apostrophe) ≡ true → ⊥) → text ≡ escaped text
escaped_same [] none = refl
escaped_same (b ∷ text) none =
    let others = neither (b == ampersand) (b == apostrophe) (not_here (b == ampersand || b == apostrophe) (none 0 (omega arith))) in
    let rest : text ≡ escaped text = escaped_same text (λ k h. none (suc k) (omega (arith, h))) in
    rw (others.0, others.1) (ap (λ x. b ∷ x) rest)
