-- What is left in the slot at the end.
use Rattle.std.proofs.Common.{◌≡◌, ℕ, List, sym, ap, ◌∙◌, subst, Option, None}
use mathlib.Core.Option.{some, some-injective}
use mathlib.Core.Option as maybe
use lib.ListN.{get_elem?}
use Rattle.atomic_table.specs.Table.{Final, Seen}
use Rattle.history_lock.specs.declared.view.View.{View}
use Rattle.history_lock.specs.declared.view.Stage.{Stage}
use Rattle.history_lock.specs.declared.view.Stage.TheVariants.{Empty}
use Rattle.history_lock.specs.Rule.{Kept, Stands}

module _ {T E : Type 0} (list : T → List E) (by : E → ℕ) where
  -- where a seat left the slot empty, nothing is in it
  pub none_left : (passes id t : ℕ) (v : View E) (ws : List ℕ) (xs : List (Option T)) (left : Option T) → v.stage ≡ Empty t → Final (Seen (Kept list by passes) id v) ws xs
      → get_elem? xs 0 ≡ some left → left ≡ None
  none_left passes id t v ws xs left empty f at =
      let k : Kept list by passes f.0 = f.1.0 in
      let st = subst (λ (z : Stage E). Stands by k.serving f.0.homes k.log v z) empty (k.each id v f.1.1).stands in
      let home : get_elem? f.0.homes 0 ≡ some (some None) = ap (λ (hs : List (maybe.Option (Option T))). get_elem? hs 0) st.1 in
      some-injective left None (sym at ∙ f.4 0 None home)
