-- Look-ups in maps that are in order, by what the maps hold.
use Rattle.std.proofs.Common.{◌≡◌, Bool, true, false, List, [], ◌∷◌, ◌⊎◌, inl, inr, cond, Option, Some, refl, ap, ◌∙◌}
use Rattle.std.specs.declared.cmp.Ordering.{Ordering}
use Rattle.std.specs.declared.cmp.Ordering.TheVariants.{Less}
use Rattle.std.specs.BTreeMap.{is_at}
use Rattle.std.specs.Cmp.{IsTotalOrder}
use Rattle.std.specs.List.Sorted.{IsStrictlySortedBy}
use Rattle.std.specs.Map.{keys_of, lookup}
use Rattle.std.specs.Ordering.{is_eq, ordering_reverse}
use Rattle.std.proofs.lemmas.Cmp.{tied_itself}
use Rattle.index_entry.proofs.Members.{Among, all_among, Among-map_back}

module _ {K X : Type 0} (R : K → K → Ordering) (o : IsTotalOrder R) where
  at_head : (b : Bool) (v : X) (rest : Option X) → b ≡ true → cond b (Some v) rest ≡ Some v
  at_head true v rest is = refl
  at_head false v rest is = cc

  past_head : (b : Bool) (v w : X) (rest : Option X) → b ≡ false → rest ≡ Some w → cond b (Some v) rest ≡ Some w
  past_head true v w rest is found = cc
  past_head false v w rest is found = found

  -- an entry is found at its key
  pub lookup-among : (es : List (K × X)) → IsStrictlySortedBy R (keys_of es) → (e : K × X) → Among es e → lookup (is_at (R e.0)) es ≡ Some e.1
  unfolding IsStrictlySortedBy
  lookup-among [] sorted e h = absurd h
  lookup-among (first ∷ es) sorted e (inl is) =
      at_head (is_eq (R e.0 first.0)) first.1 (lookup (is_at (R e.0)) es) (ap is_eq (ap (λ f. R e.0 f.0) is ∙ tied_itself o e.0)) ∙ ap (λ f. Some f.1) is
  lookup-among (first ∷ es) sorted e (inr h) =
      let below : R first.0 e.0 ≡ Less = all_among (λ k. R first.0 k ≡ Less) (keys_of es) sorted.0 e.0 (Among-map_back (λ (f : K × X). f.0) es e h) in
      past_head (is_eq (R e.0 first.0)) first.1 e.1 (lookup (is_at (R e.0)) es) (ap is_eq (o.antisymm e.0 first.0 ∙ ap ordering_reverse below)) (lookup-among es sorted.1 e h)

  found_head : (test : K → Bool) (b : Bool) (first : K × X) (es : List (K × X)) (v : X) → test first.0 ≡ b → (lookup test es ≡ Some v → (e : K × X) × Among es e × (test e.0 ≡ true) × (e.1 ≡ v)) → cond b (Some first.1) (lookup test es) ≡ Some v
      → (e : K × X) × ((first ≡ e) ⊎ Among es e) × (test e.0 ≡ true) × (e.1 ≡ v)
  found_head test true first es v is rest found = (first, inl refl, is, cc)
  found_head test false first es v is rest found = let more = rest found in (more.0, inr more.1, more.2, more.3)

  -- what is found is an entry
  pub among-lookup : (test : K → Bool) (es : List (K × X)) (v : X) → lookup test es ≡ Some v → (e : K × X) × Among es e × (test e.0 ≡ true) × (e.1 ≡ v)
  among-lookup test [] v found = cc
  among-lookup test (first ∷ es) v found = found_head test (test first.0) first es v refl (among-lookup test es v) found
