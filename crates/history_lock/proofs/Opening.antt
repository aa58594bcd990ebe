-- The seat that makes the others makes one more.
use Rattle.std.proofs.Common.{◌≡◌, ◌≢◌, ℕ, ◌+◌, ◌<◌, ◌≤◌, true, List, [], ◌∷◌, ◌++◌, length, set, sym, ap, ◌∙◌, subst, ⊎_elim, inl, inr, arith, Option, None, length-set, length-append}
use Rattle.std.proofs.lemmas.Bool.{false≢true}
use mathlib.Core.Option.{some}
use lib.ListN.{get_elem?}
use Rattle.atomic_table.proofs.Lists.{at_set, at_longer}
use Rattle.atomic_table.specs.Table.{Splits}
use Rattle.history_lock.specs.Seen.{All, Apart, IsOther, Shows}
use Rattle.history_lock.specs.declared.view.View.{View}
use Rattle.history_lock.specs.declared.view.Stage.{Stage}
use Rattle.history_lock.specs.declared.view.Stage.TheVariants.{Idle}
use Rattle.history_lock.specs.Rule.{ticket_of, one_of, has_turn, Differ, Stands, Fits, Kept}
use Rattle.history_lock.specs.Steps.{opener, opened}
use Rattle.history_lock.proofs.Views.{each_set, pairs_set, count_set, taken_stays}
use Rattle.history_lock.proofs.Ends.{each_end, pairs_end, all_then, all_both, count_end}
use Rattle.history_lock.proofs.Keeps.{differ_none}
use Rattle.history_lock.proofs.Merging.{all_back}

-- the next number is none of the numbers so far
next_apart : (count : ℕ) (ns : List ℕ) → All (λ n. (1 ≤ n) × (n ≤ count)) ns → Apart (1 + count) ns × All (λ n. Apart n ((1 + count) ∷ [])) ns
next_apart count ns small = (
  all_then (λ n. (1 ≤ n) × (n ≤ count)) (λ n. 1 + count ≢ n) (λ n h e. omega (arith, h.1, e)) ns small,
  all_then (λ n. (1 ≤ n) × (n ≤ count)) (λ n. Apart n ((1 + count) ∷ [])) (λ n h. ((λ e. omega (arith, h.1, e)), tt)) ns small,
)

numbers_grow : (count : ℕ) (ns : List ℕ) → All (λ n. (1 ≤ n) × (n ≤ count)) ns → All (λ n. (1 ≤ n) × (n ≤ 1 + count)) ns
numbers_grow count ns small = all_then (λ n. (1 ≤ n) × (n ≤ count)) (λ n. (1 ≤ n) × (n ≤ 1 + count)) (λ n h. (h.0, omega (arith, h.1))) ns small

-- no entry so far names the next number
shows_next : {E : Type 0} (by : E → ℕ) (passes count : ℕ) (numbers : List ℕ) (seen log : List E) → All (λ e. by e ≤ count) log → Shows by passes numbers seen log → Shows by passes ((1 + count) ∷ []) seen log
shows_next by passes count numbers seen log made s = record {
  more = s.more;
  is_seen_and_more = s.is_seen_and_more;
  of_others = all_both (IsOther by passes numbers) (λ e. by e ≤ count) (IsOther by passes ((1 + count) ∷ []))
      (λ e o le. (((λ q. omega (arith, q, le)), tt), o.1, o.2)) s.more s.of_others (all_back (λ e. by e ≤ count) seen s.more (subst (All (λ e. by e ≤ count)) s.is_seen_and_more made));
}

module _ {T E : Type 0} (list : T → List E) (by : E → ℕ) (passes : ℕ) where
  pub opens_one : (id : ℕ) (v : View E) → v.stage ≡ Idle → 0 < length v.numbers → 0 < v.opens → v.opens < passes → Splits {S = Option T} (Kept list by passes) id v (opener v) (opened v)
  opens_one id v idle some_number first fewer s k at =
      let mine = k.each id v at in
      let n : ℕ = length s.views in
      let o : (id ≡ 0) × (v.opens ≡ n) = mine.opens first in
      let left : View E = opener v in
      let right : View E = opened v in
      let front : List (View E) = set s.views id left in
      let same_long : length front ≡ n = length-set s.views id left in
      let long : length (front ++ right ∷ []) ≡ 1 + n = omega (arith, length-append front (right ∷ []), same_long) in
      let next : 1 + n ≡ 1 + v.opens = omega (arith, o.1) in
      let none_yet : has_turn v.stage ≢ true = λ h. false≢true (sym (ap has_turn idle) ∙ h) in
      let no_ticket : ticket_of v.stage ≡ None = ap ticket_of idle in
      let zero_tickets : one_of (ticket_of v.stage) ≡ 0 = ap one_of no_ticket in
      let K : ℕ → View E → Type 0 = Fits by passes k.serving k.drawn (1 + n) s.homes k.log in
      let own : K id left = record {
        shows = λ _. subst (λ (m : ℕ). Shows by passes (m ∷ []) v.seen k.log) next (shows_next by passes n v.numbers v.seen k.log k.made (mine.shows some_number));
        passes_are = λ _. mine.passes_are some_number;
        numbers = ((omega arith, omega (arith, o.1)), tt);
        opens = λ _. (o.0, sym next);
        ticket = mine.ticket;
        stands = subst (λ (z : Stage E). Stands by k.serving s.homes k.log left z) (sym idle) tt;
      } in
      let last : K (length front) right = record {
        shows = mine.shows;
        passes_are = mine.passes_are;
        numbers = numbers_grow n v.numbers mine.numbers;
        opens = λ none. absurd (omega (arith, none));
        ticket = mine.ticket;
        stands = subst (λ (z : Stage E). Stands by k.serving s.homes k.log right z) (sym idle) tt;
      } in
      let other : (j : ℕ) (u : View E) → j ≢ id → get_elem? s.views j ≡ some u → K j u = λ j u ne e.
      let f = k.each j u e in
      record { shows = f.shows; passes_are = f.passes_are; numbers = numbers_grow n u.numbers f.numbers; opens = λ h. absurd (ne ((f.opens h).0 ∙ sym o.0)); ticket = f.ticket; stands = f.stands } in
      let R : View E → View E → Type 0 = λ u y. All (λ m. Apart m y.numbers) u.numbers × Differ (ticket_of u.stage) (ticket_of y.stage) in
      let fresh : (ns : List ℕ) → All (λ m. (1 ≤ m) × (m ≤ n)) ns → Apart (1 + v.opens) ns × All (λ m. Apart m ((1 + v.opens) ∷ [])) ns
      = λ ns small. subst (λ (m : ℕ). Apart m ns × All (λ i. Apart i (m ∷ [])) ns) next (next_apart n ns small) in
      let free : (t : Option ℕ) → Differ (ticket_of v.stage) t × Differ t (ticket_of v.stage)
      = λ t. subst (λ (z : Option ℕ). Differ z t × Differ t z) (sym no_ticket) (differ_none t) in
      let beside_left : (j : ℕ) (u : View E) → j ≢ id → get_elem? s.views j ≡ some u → R left u × R u left = λ j u ne e.
      let a = fresh u.numbers (k.each j u e).numbers in let d = free (ticket_of u.stage) in (((a.0, tt), d.0), (a.1, d.1)) in
      let pair : R right left × R left right = (let a = fresh v.numbers mine.numbers in let d = free (ticket_of v.stage) in ((a.1, d.0), ((a.0, tt), d.1))) in
      let beside_right : (j : ℕ) (u : View E) → get_elem? front j ≡ some u → R right u × R u right = λ j u e. ⊎_elim
      (λ (t : (j ≡ id) × (left ≡ u)). subst (λ (z : View E). R right z × R z right) t.1 pair)
      (λ (t : (j ≢ id) × (get_elem? s.views j ≡ some u)). (k.apart id j v u (λ q. t.0 (sym q)) at t.1, k.apart j id u v t.0 t.1 at))
      (at_set s.views id j left u e) in
      record {
        log = k.log;
        drawn = k.drawn;
        serving = k.serving;
        words = k.words;
        tickets = (let m = count_set s.views id v left at in let c = count_end front right zero_tickets in omega (arith, k.tickets));
        few = (omega (arith, long, o.1, fewer), k.few.1);
        slot = ⊎_elim (λ h. inl h)
            (λ t. let r = taken_stays s.views id v left at none_yet t in inr (record { seat = r.seat; view = r.view; sits = at_longer front (right ∷ []) r.seat r.view r.sits; takes = r.takes }))
            k.slot;
        made = subst (λ (m : ℕ). All (λ e. by e ≤ m) k.log) (sym long) (all_then (λ e. by e ≤ n) (λ e. by e ≤ 1 + n) (λ e h. omega (arith, h)) k.log k.made);
        each = subst (λ (m : ℕ). (j : ℕ) (u : View E) → get_elem? (front ++ right ∷ []) j ≡ some u → Fits by passes k.serving k.drawn m s.homes k.log j u) (sym long)
            (each_end K front right last (each_set K s.views id left own other));
        apart = pairs_end R front right beside_right (pairs_set R s.views id left beside_left k.apart);
      }
