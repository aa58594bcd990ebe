-- A share whose seat comes back to its place.
use Rattle.std.proofs.Common.{◌≡◌, ℕ, ◌+◌, ◌-◌, ◌<◌, List, [], ◌∷◌, ◌++◌, length, sym, refl, ap, ◌∙◌, subst, arith}
use Rattle.link_queue.specs.declared.view.Holding.{Holding}
use Rattle.std.specs.List.{sum_by}
use Rattle.std.proofs.lemmas.List.Sums.{sum_by-cons}
use Rattle.link_queue.specs.Accounts.{all_parts}
use Rattle.link_queue.specs.Steps.{both}
use Rattle.link_queue.specs.Rule.{sole, keeper, kept_weight, IsShare}

module _ {K : Type 0} where
  -- two views of one badge are one
  pub same_view : (views : List (Holding K)) (v w : Holding K) → views ≡ v ∷ [] → views ≡ w ∷ [] → v ≡ w
  same_view views v w a b = sym (ap sole a) ∙ ap sole b

  -- a view with a part, in which nothing waits, is a share's
  pub share_of : (views : List (Holding K)) (v : Holding K) → views ≡ v ∷ [] → v.held ≡ [] → 0 < v.parts → IsShare views
  share_of views v is none some =
      let same : sole views ≡ v = ap sole is in record {
        one = is ∙ ap (λ (w : Holding K). w ∷ []) (sym same);
        none_held = ap (λ (w : Holding K). w.held) same ∙ none;
        some_part = subst (λ (w : Holding K). 0 < w.parts) (sym same) some;
      }

  -- what the two views knew, of which one keeps what waits and the other has all other parts
  pub whole_of : (kept views : List (Holding K)) (a b m : Holding K) → kept ≡ keeper (sole kept).held ∷ [] → kept ≡ a ∷ [] → IsShare views → views ≡ b ∷ [] → m ≡ both a b
      → (sole views).parts ≡ all_parts - 1 → (m.parts ≡ all_parts → (weigh : K → ℕ) → sum_by weigh m.put ≡ kept_weight weigh m)
      → (weigh : K → ℕ) → sum_by weigh (sole views).put ≡ sum_by weigh (sole views).taken + sum_by weigh (sole kept).held
  whole_of kept views a b m keeps at share at' joined parts told weigh =
      let held : List K = (sole kept).held in
      let v : Holding K = sole views in
      let first : a ≡ keeper held = same_view kept a (keeper held) at keeps in
      let second : b ≡ v = same_view views b v at' share.one in
      let is : m ≡ both (keeper held) v = joined ∙ (λ i. both (first i) (second i)) in
      let all : m.parts ≡ all_parts = ap (λ (w : Holding K). w.parts) is ∙ omega (arith, parts) in
      let p : m.put ≡ v.put = ap (λ (w : Holding K). w.put) is in
      let q : m.taken ≡ v.taken = ap (λ (w : Holding K). w.taken) is in
      let h : m.held ≡ held = ap (λ (w : Holding K). w.held) is ∙ ap (λ (xs : List K). xs ++ held) share.none_held in
      sym (ap (sum_by weigh) p) ∙ (told all weigh ∙ (λ i. sum_by weigh (q i) + sum_by weigh (h i)))

  ones : (xs : List K) → sum_by (λ _. 1) xs ≡ length xs
  ones [] = refl
  ones (x ∷ xs) = let r = ones xs in omega (arith, r, sum_by-cons (λ (_ : K). 1) x xs)

  -- as many were put as were taken and are left
  pub as_many : (put taken left : List K) → ((weigh : K → ℕ) → sum_by weigh put ≡ sum_by weigh taken + sum_by weigh left) → length put ≡ length taken + length left
  as_many put taken left whole = let e = whole (λ _. 1) in omega (arith, e, ones put, ones taken, ones left)
