-- A pass whose seat comes back to its place.
use Rattle.std.proofs.Common.{◌≡◌, ℕ, List, [], ◌∷◌, sym, ap, ◌∙◌, subst, drop}
use Rattle.atomic_table.specs.Table.{Me}
use Rattle.history_lock.specs.declared.view.View.{View}
use Rattle.history_lock.specs.Known.{is_idle, sole, IsPass, AtRest}

module _ {T E : Type 0} where
  -- a seat at rest is a pass again
  pub pass_of : (number : ℕ) (me : Me T (View E)) (views : List (View E)) → AtRest number me → views ≡ me.0 ∷ [] → IsPass number views
  pass_of number me views rest is =
      let same : sole views ≡ me.0 = ap sole is in record {
        one = is ∙ ap (λ (v : View E). v ∷ []) (sym same);
        numbered = subst (λ (v : View E). v.numbers ≡ number ∷ drop 1 v.numbers) (sym same) rest.numbered;
        idle = ap (λ (v : View E). is_idle v.stage) same ∙ rest.idle;
      }

  -- a seat that was taken out of its place has the pass's number first
  pub numbered_of : (number : ℕ) (me : Me T (View E)) (views : List (View E)) → IsPass number views → me ≡ (sole views, []) → me.0.numbers ≡ number ∷ drop 1 me.0.numbers
  numbered_of number me views pass is = subst (λ (v : View E). v.numbers ≡ number ∷ drop 1 v.numbers) (sym (ap (λ (m : Me T (View E)). m.0) is)) pass.numbered
