-- Each step keeps the rule.
use Rattle.std.proofs.Common.{◌≡◌, ◌≢◌, ℕ, ◌+◌, ◌<◌, ◌==◌, List, [], ◌∷◌, ◌++◌, set, sym, refl, ap, ◌∙◌, subst, ⊎_elim, arith, take}
use Rattle.std.specs.List.{sum_by}
use Rattle.std.proofs.lemmas.List.Sums.{sum_by-append}
use mathlib.Core.Option.{some, none, some-ne-none}
use prog.Atomic.{either}
use lib.ListN.{get_elem?}
use Rattle.atomic_table.proofs.Lists.{at_set, at_snoc, set_else}
use Rattle.atomic_table.specs.Table.{State, Me, step, keeps, Splits, Joins, Allows, opening}
use Rattle.link_queue.specs.declared.view.Holding.{Holding}
use Rattle.link_queue.specs.Accounts.{all_parts}
use Rattle.link_queue.specs.Rule.{holding, founder, spent, kept_weight, IsEmpty, Kept}
use Rattle.link_queue.specs.Steps.{puts, audits, less_one, one_part, waiting_of, rest_of, others_of, taker_of, both}
use Rattle.link_queue.proofs.Sums.{sum_set, sum_end, sum_first, sum_one}

-- a fact of each element stays, where it holds of the new one
pub each_set : {A : Type 0} (P : A → Type 0) (xs : List A) (i : ℕ) (y : A) → P y → ((j : ℕ) (x : A) → get_elem? xs j ≡ some x → P x)
    → (j : ℕ) (x : A) → get_elem? (set xs i y) j ≡ some x → P x
each_set P xs i y mine others j x e = ⊎_elim (λ (t : (j ≡ i) × (y ≡ x)). subst P t.1 mine) (λ (t : (j ≢ i) × (get_elem? xs j ≡ some x)). others j x t.1) (at_set xs i j y x e)

-- and where it holds of one more at the end
each_end : {A : Type 0} (P : A → Type 0) (xs : List A) (y : A) → P y → ((j : ℕ) (x : A) → get_elem? xs j ≡ some x → P x)
    → (j : ℕ) (x : A) → get_elem? (xs ++ y ∷ []) j ≡ some x → P x
each_end P xs y mine others j x e = ⊎_elim (others j x) (λ is. subst P is mine) (at_snoc xs y x j e)

module _ {K : Type 0} where
  -- without a part there are no links
  abbrev Idle : Holding K → Type 0
  Idle v = v.parts ≡ 0 → IsEmpty v

  abbrev some_part : (v : Holding K) → 0 < v.parts → Idle v
  some_part v has no_part = absurd (omega (arith, has, no_part))

  abbrev parts_of : Holding K → ℕ
  parts_of v = v.parts

  abbrev put_weight : (K → ℕ) → Holding K → ℕ
  put_weight weigh v = sum_by weigh v.put

  pub begins : (words : List ℕ) → Kept {K = K} (opening words [] founder)
  begins words = record {
    parts = refl;
    even = λ weigh. refl;
    idle = each_end Idle [] founder (λ no_part. absurd (omega (arith, no_part))) (λ j x e. absurd (some-ne-none x (sym e)));
  }

  -- a view is cut in two
  pub splits : (id : ℕ) (v left right : Holding K) → left.parts + right.parts ≡ v.parts → 0 < left.parts → 0 < right.parts
      → ((weigh : K → ℕ) → put_weight weigh left + put_weight weigh right ≡ put_weight weigh v)
      → ((weigh : K → ℕ) → kept_weight weigh left + kept_weight weigh right ≡ kept_weight weigh v)
      → Splits {S = K} Kept id v left right
  splits id v left right parts has has' put kept s k at =
      let front : List (Holding K) = set s.views id left in record {
        parts = (let a = sum_set parts_of s.views id v left at in let b = sum_end parts_of front right in omega (arith, k.parts, parts, a, b));
        even = λ weigh.
            let a = sum_set (put_weight weigh) s.views id v left at in
            let b = sum_end (put_weight weigh) front right in
            let c = sum_set (kept_weight weigh) s.views id v left at in
            let d = sum_end (kept_weight weigh) front right in
            let e = k.even weigh in
            let f = put weigh in
            let g = kept weigh in
            omega (arith, a, b, c, d, e, f, g);
        idle = each_end Idle front right (some_part right has') (each_set Idle s.views id left (some_part left has) k.idle);
      }

  -- two views are made one
  pub joins : (id other : ℕ) (v w : Holding K) → 0 < v.parts → Joins {S = K} Kept id v other w (both v w) spent
  joins id other v w has s k at apart at' =
      let front : List (Holding K) = set s.views id (both v w) in record {
        parts = (let a = sum_set parts_of s.views id v (both v w) at in let b = sum_set parts_of front other w spent at' in omega (arith, k.parts, a, b));
        even = λ weigh.
            let a = sum_set (put_weight weigh) s.views id v (both v w) at in
            let b = sum_set (put_weight weigh) front other w spent at' in
            let c = sum_set (kept_weight weigh) s.views id v (both v w) at in
            let d = sum_set (kept_weight weigh) front other w spent at' in
            let e = k.even weigh in
            let f = sum_by-append weigh v.put w.put in
            let g = sum_by-append weigh v.taken w.taken in
            let h = sum_by-append weigh w.held v.held in
            omega (arith, a, b, c, d, e, f, g, h);
        idle = each_set Idle front other spent (λ no_part. record { put = refl; taken = refl; held = refl }) (each_set Idle s.views id (both v w) (some_part (both v w) (omega (arith, has))) k.idle);
      }

  -- a view changes, and what was put by it weighs more by as much as what it keeps
  moves : (s : State K (Holding K)) (words : List ℕ) (id : ℕ) (v w : Holding K) → Kept s → get_elem? s.views id ≡ some v → 0 < w.parts → w.parts ≡ v.parts
      → ((weigh : K → ℕ) → put_weight weigh w + kept_weight weigh v ≡ put_weight weigh v + kept_weight weigh w)
      → Kept (record { words = words; homes = s.homes; views = set s.views id w })
  moves s words id v w k at has same more = record {
    parts = (let a = sum_set parts_of s.views id v w at in omega (arith, k.parts, a, same));
    even = λ weigh.
        let a = sum_set (put_weight weigh) s.views id v w at in
        let c = sum_set (kept_weight weigh) s.views id v w at in
        let e = k.even weigh in
        let f = more weigh in
        omega (arith, a, c, e, f);
    idle = each_set Idle s.views id w (some_part w has) k.idle;
  }

  -- a link is put
  pub puts_one : (slots word old new id : ℕ) (me : Me K (Holding K)) (link : K) → 0 < me.0.parts
      → Allows Kept slots id me word (λ n. either (n == old) new n) (puts (step slots word old new (some link)) me)
  puts_one slots word old new id me link has s k homes at small =
      let v : Holding K = me.0 in
      let w : Holding K = holding v.parts (v.put ++ link ∷ []) v.taken (v.held ++ link ∷ []) in (
        w,
        keeps,
        tt,
        moves s _ id v w k at has refl (λ weigh. let a = sum_end weigh v.put link in let b = sum_end weigh v.held link in omega (arith, a, b)),
        refl,
      )

  -- one part is cut off
  pub cuts : (id : ℕ) (v : Holding K) → 1 < v.parts → Splits {S = K} Kept id v (less_one v) (one_part v)
  cuts id v more = splits id v (less_one v) (one_part v) (omega (arith, more)) (omega (arith, more)) (omega arith)
      (λ weigh. let z : sum_by weigh [] ≡ 0 = refl in omega (arith, z))
      (λ weigh. let z : sum_by weigh [] ≡ 0 = refl in omega (arith, z))

  -- what waits goes to one part, and all else to the others
  pub gives : (id : ℕ) (v : Holding K) → 1 < v.parts → Splits {S = K} Kept id v (waiting_of v) (rest_of v)
  gives id v more = splits id v (waiting_of v) (rest_of v) (omega (arith, more)) (omega arith) (omega (arith, more))
      (λ weigh. let z : sum_by weigh [] ≡ 0 = refl in omega (arith, z))
      (λ weigh. let z : sum_by weigh [] ≡ 0 = refl in omega (arith, z))

  -- the same, with the first that waits taken
  pub takes : (id : ℕ) (v : Holding K) → 1 < v.parts → Splits {S = K} Kept id v (others_of v) (taker_of v)
  takes id v more = splits id v (others_of v) (taker_of v) (omega (arith, more)) (omega arith) (omega (arith, more))
      (λ weigh. let z : sum_by weigh [] ≡ 0 = refl in omega (arith, z))
      (λ weigh.
      let z : sum_by weigh [] ≡ 0 = refl in
      let a = sum_by-append weigh v.taken (take 1 v.held) in
      let b = sum_first weigh v.held in
      omega (arith, z, a, b))

  -- the number of parts of one view is no more than all
  parts_beside : (views : List (Holding K)) (id j : ℕ) (v u : Holding K) → j ≢ id → get_elem? views id ≡ some v → get_elem? views j ≡ some u → v.parts + u.parts + sum_by parts_of (set (set views id spent) j spent) ≡ sum_by parts_of views
  parts_beside views id j v u ne at at' =
      let a = sum_set parts_of views id v spent at in
      let b = sum_set parts_of (set views id spent) j u spent (set_else views id j spent ne ∙ at') in
      omega (arith, a, b)

  empty_put : (weigh : K → ℕ) (v : Holding K) → IsEmpty v → put_weight weigh v ≡ 0
  empty_put weigh v e = ap (sum_by weigh) e.put

  empty_kept : (weigh : K → ℕ) (v : Holding K) → IsEmpty v → kept_weight weigh v ≡ 0
  empty_kept weigh v e =
      let a : sum_by weigh v.taken ≡ 0 = ap (sum_by weigh) e.taken in
      let b : sum_by weigh v.held ≡ 0 = ap (sum_by weigh) e.held in
      omega (arith, a, b)

  -- who has every part knows all
  pub learns : (s : State K (Holding K)) (id : ℕ) (v : Holding K) → Kept s → get_elem? s.views id ≡ some v → v.parts ≡ all_parts → (weigh : K → ℕ) → put_weight weigh v ≡ kept_weight weigh v
  learns s id v k at all weigh =
      let others : (j : ℕ) (u : Holding K) → j ≢ id → get_elem? s.views j ≡ some u → IsEmpty u
      = λ j u ne e. k.idle j u e (let a = parts_beside s.views id j v u ne at e in omega (arith, a, all, k.parts)) in
      let a = sum_one (put_weight weigh) s.views id v at (λ j u ne e. empty_put weigh u (others j u ne e)) in
      let b = sum_one (kept_weight weigh) s.views id v at (λ j u ne e. empty_kept weigh u (others j u ne e)) in
      let e = k.even weigh in
      omega (arith, a, b, e)

  pub audits_all : (slots word id : ℕ) (me : Me K (Holding K)) → 0 < me.0.parts → Allows Kept slots id me word (λ n. n) (audits (step slots word 0 0 none) me)
  audits_all slots word id me has s k homes at small =
      let v : Holding K = me.0 in (v, keeps, tt, moves s _ id v v k at has refl (λ weigh. omega arith), (refl, learns s id v k at))
