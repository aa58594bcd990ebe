-- The entries that are left to note, and the last one.
use Rattle.std.proofs.Common.{◌≡◌, ℕ, ◌+◌, ◌-◌, ◌%◌, ◌^◌, ◌<◌, List, [], ◌∷◌, ◌++◌, length, take, sym, refl, ap, ◌∙◌, subst, arith, Option}
use Rattle.std.proofs.lemmas.List.{append_assoc, append-nil}
use Rattle.std.proofs.Math.Seq.{take-append-add}
use mathlib.Core.Option.{none}
use Rattle.atomic_table.specs.Table.{Me, step, Allows}
use Rattle.history_lock.specs.Seen.{All}
use Rattle.history_lock.specs.declared.view.View.{View}
use Rattle.history_lock.specs.Rule.{Kept}
use Rattle.history_lock.specs.Steps.{noted, one_more}
use Rattle.history_lock.specs.Phases.{HasLeft}
use Rattle.history_lock.proofs.Keeps.{notes}

module _ {T E : Type 0} (list : T → List E) (by : E → ℕ) where
  notes_one : (passes slots id n : ℕ) (w : Me (Option T) (View E)) (h : HasLeft list by n w) (more : List E) → h.more ≡ more → 0 < length more
      → Allows (Kept list by passes) slots id w 0 (λ k. (k + 1) % 2 ^ 64) (noted list (step slots 0 1 0 none) w)
  notes_one passes slots id n w h [] is some_left = absurd (omega arith)
  notes_one passes slots id n w h (e ∷ more) is some_left =
      notes list by passes slots id h.ticket w.0 w.1 h.value h.number h.others e more h.holds h.hand h.numbered (subst (All (λ x. by x ≡ h.number)) is h.of_pass).0 (h.list_is ∙ ap (λ (xs : List E). w.0.seen ++ xs) is)

  -- while one is left, it can be noted
  pub can_note : (passes slots id n : ℕ) (w : Me (Option T) (View E)) → HasLeft list by n w → 0 < n
      → Allows (Kept list by passes) slots id w 0 (λ k. (k + 1) % 2 ^ 64) (noted list (step slots 0 1 0 none) w)
  can_note passes slots id n w h some_left = notes_one passes slots id n w h h.more refl (omega (arith, h.count_is))

  left_one : (n : ℕ) (w : Me (Option T) (View E)) (h : HasLeft list by n w) (more : List E) → h.more ≡ more → 0 < length more
      → HasLeft list by (n - 1) (record w.0 { seen = one_more list w.0.seen w.1 }, w.1)
  left_one n w h [] is some_left = absurd (omega arith)
  left_one n w h (e ∷ more) is some_left =
      let whole : list h.value ≡ w.0.seen ++ e ∷ more = h.list_is ∙ ap (λ (xs : List E). w.0.seen ++ xs) is in
      let next : one_more list w.0.seen w.1 ≡ w.0.seen ++ e ∷ [] = ap (one_more list w.0.seen) h.hand ∙ (ap (take (length w.0.seen + 1)) whole ∙ take-append-add w.0.seen (e ∷ more) 1) in
      let count : length h.more ≡ length (e ∷ more) = ap length is in record {
        ticket = h.ticket;
        value = h.value;
        number = h.number;
        others = h.others;
        more = more;
        holds = h.holds;
        hand = h.hand;
        numbered = h.numbered;
        list_is = whole ∙ (sym (append_assoc w.0.seen (e ∷ []) more) ∙ ap (λ (xs : List E). xs ++ more) (sym next));
        of_pass = (subst (All (λ x. by x ≡ h.number)) is h.of_pass).1;
        count_is = omega (arith, h.count_is);
      }

  -- then one less is left
  pub left_after : (n : ℕ) (w w' : Me (Option T) (View E)) → HasLeft list by n w → 0 < n → w' ≡ (record w.0 { seen = one_more list w.0.seen w.1 }, w.1) → HasLeft list by (n - 1) w'
  left_after n w w' h some_left is = subst (HasLeft list by (n - 1)) (sym is) (left_one n w h h.more refl (omega (arith, h.count_is)))

  none_more : {A : Type 0} (xs : List A) → length xs ≡ 0 → xs ≡ []
  none_more [] e = refl
  none_more (x ∷ xs) e = absurd (omega arith)

  -- where none is left, the list is seen
  pub all_seen : (w : Me (Option T) (View E)) (h : HasLeft list by 0 w) → w.0.seen ≡ list h.value
  all_seen w h = sym (h.list_is ∙ (ap (λ (xs : List E). w.0.seen ++ xs) (none_more h.more h.count_is) ∙ append-nil w.0.seen))

  -- a note changes the seen list alone
  pub still : (v l w : Me (Option T) (View E)) → l ≡ (record v.0 { seen = l.0.seen }, v.1) → w ≡ (record l.0 { seen = one_more list l.0.seen l.1 }, l.1) → w ≡ (record v.0 { seen = w.0.seen }, v.1)
  still v l w before now =
      let xs : List E = one_more list l.0.seen l.1 in
      let f : Me (Option T) (View E) → Me (Option T) (View E) = λ m. (record m.0 { seen = xs }, m.1) in
      let h : List E → Me (Option T) (View E) = λ ys. (record v.0 { seen = ys }, v.1) in
      now ∙ (ap f before ∙ ap h (sym (ap (λ (m : Me (Option T) (View E)). m.0.seen) now)))
