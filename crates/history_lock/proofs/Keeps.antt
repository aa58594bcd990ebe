-- Each step keeps the rule.
use Rattle.std.proofs.Common.{◌≡◌, ◌≢◌, ◌⊎◌, ℕ, zero, suc, ◌+◌, ◌%◌, ◌^◌, ◌<◌, ◌≤◌, Bool, true, false, List, [], ◌∷◌, ◌++◌, take, length, set, slice_index, sym, refl, ap, ◌∙◌, subst, ⊎_elim, inl, inr, arith, Option, Some, None, length-set, append-nil, length-append, eq-eqb, ne_eqb, MatchBool}
use Rattle.std.proofs.lemmas.Bool.{false≢true}
use Rattle.std.proofs.lemmas.List.{append_assoc}
use Rattle.std.proofs.Math.Seq.{take-append-add}
use mathlib.Core.Option.{some, none, some-injective, some-ne-none}
use mathlib.Core.Option as maybe
use mathlib.Core.Logic.{dite}
use native.Mathlib.Decide.{ℕ_discrete}
use lib.ListN.{get_elem?}
use Rattle.atomic_table.proofs.Lists.{set_here, set_again, one_turn}
use Rattle.atomic_table.specs.Table.{State, Me, step, Act, keeps, takes, gives, stepped, homes_after, put_back, opening, Allows}
use Rattle.history_lock.specs.Seen.{All, Apart, IsOther, Shows}
use Rattle.history_lock.specs.declared.view.View.{View}
use Rattle.history_lock.specs.declared.view.Stage.{Stage}
use Rattle.history_lock.specs.declared.view.Stage.TheVariants.{Idle, Waits, Holds, Empty, Joined}
use Rattle.history_lock.specs.Rule.{founder, ticket_of, number_of, one_of, count_tickets, has_turn, InRange, Differ, Stands, Fits, IsHome, IsTaken, Kept}
use Rattle.history_lock.specs.Steps.{drawn, looked, Came, noted, one_more, passed_on, emptied, filled, settled}
use Rattle.history_lock.proofs.Views.{each_set, pairs_set, count_set, count_bound, taken_stays, is_inside}

-- a ticket in the range stays in it, where the end goes up
range_grows : (serving drawn : ℕ) (t : Option ℕ) → InRange serving drawn t → InRange serving (1 + drawn) t
range_grows serving drawn (Some t) r = (r.0, omega (arith, r.1))
range_grows serving drawn None r = tt

-- a ticket in the range differs from the next
differ_next : (serving drawn : ℕ) (t : Option ℕ) → InRange serving drawn t → Differ (Some drawn) t × Differ t (Some drawn)
differ_next serving drawn (Some t) r = ((λ e. omega (arith, r.1)), (λ e. omega (arith, r.1)))
differ_next serving drawn None r = (tt, tt)

-- the numbers found at a load of the word that is served are one where their remainders are
is_served : (serving count drawn ticket : ℕ) → serving + count ≡ drawn → count < 2 ^ 32 → serving ≤ ticket → ticket < drawn → serving % 2 ^ 64 ≡ ticket % 2 ^ 64 → serving ≡ ticket
is_served serving count drawn ticket sum few le lt e = one_turn serving ticket (2 ^ 64) le (omega (arith, sum, few, lt)) e

module _ {T E : Type 0} (by : E → ℕ) (serving : ℕ) where
  -- who has the turn has the ticket that is served
  turn_is_served : (homes : List (maybe.Option (Option T))) (log : List E) (v : View E) (x : Stage E) → has_turn x ≡ true → Stands by serving homes log v x → ticket_of x ≡ Some serving
  turn_is_served homes log v Idle h st = absurd (false≢true h)
  turn_is_served homes log v (Waits t) h st = absurd (false≢true h)
  turn_is_served homes log v (Holds t) h st = ap (λ (n : ℕ). let o : Option ℕ = Some n in o) st.0
  turn_is_served homes log v (Empty t) h st = ap (λ (n : ℕ). let o : Option ℕ = Some n in o) st.0
  turn_is_served homes log v (Joined a b c d) h st = absurd (false≢true h)

  -- where another seat has the ticket that is served, what a view's stage says doesn't rest on the slot or the list so far
  waits_on : (serving' : ℕ) (homes homes' : List (maybe.Option (Option T))) (log log' : List E) (v : View E) (x : Stage E) → Differ (Some serving) (ticket_of x) → Stands by serving homes log v x → Stands by serving' homes' log' v x
  waits_on serving' homes homes' log log' v Idle d st = tt
  waits_on serving' homes homes' log log' v (Waits t) d st = tt
  waits_on serving' homes homes' log log' v (Holds t) d st = absurd (d (sym st.0))
  waits_on serving' homes homes' log log' v (Empty t) d st = absurd (d (sym st.0))
  waits_on serving' homes homes' log log' v (Joined a b c d') d st = st

-- a ticket that isn't the one served is in the range after it
range_shrinks : (serving drawn : ℕ) (t : Option ℕ) → Differ (Some serving) t → InRange serving drawn t → InRange (1 + serving) drawn t
range_shrinks serving drawn (Some t) d r = (dite (ℕ_discrete serving t) (λ e. absurd (d e)) (λ ne. omega (arith, r.0, ne)), r.1)
range_shrinks serving drawn None d r = tt

pub differ_none : (t : Option ℕ) → Differ None t × Differ t None
differ_none (Some t) = (tt, tt)
differ_none None = (tt, tt)

all_more : {A : Type 0} (P : A → Type 0) (xs : List A) (x : A) → All P xs → P x → All P (xs ++ x ∷ [])
all_more P [] x a p = (p, tt)
all_more P (y ∷ ys) x a p = (a.0, all_more P ys x a.1 p)

-- an entry more, which is another's
shows_more : {E : Type 0} (by : E → ℕ) (passes : ℕ) (numbers : List ℕ) (seen log : List E) (e : E) → IsOther by passes numbers e → Shows by passes numbers seen log → Shows by passes numbers seen (log ++ e ∷ [])
shows_more by passes numbers seen log e other s = record {
  more = s.more ++ e ∷ [];
  is_seen_and_more = ap (λ xs. xs ++ e ∷ []) s.is_seen_and_more ∙ append_assoc seen s.more (e ∷ []);
  of_others = all_more (IsOther by passes numbers) s.more e s.of_others other;
}

-- the only element of a list
at_first_of : {A : Type 0} (v : A) (j : ℕ) (u : A) → get_elem? (v ∷ []) j ≡ some u → (j ≡ 0) × (v ≡ u)
at_first_of v zero u e = (refl, some-injective v u e)
at_first_of v (suc j) u e = absurd (some-ne-none u (sym e))

-- a list shows itself
pub shows_self : {E : Type 0} (by : E → ℕ) (passes : ℕ) (numbers : List ℕ) (seen log : List E) → log ≡ seen → Shows by passes numbers seen log
shows_self by passes numbers seen log is = record { more = []; is_seen_and_more = is ∙ sym (append-nil seen); of_others = tt }

module _ {T E : Type 0} (list : T → List E) (by : E → ℕ) (passes : ℕ) where
  abbrev Rule : State (Option T) (View E) → Type 0
  Rule = Kept list by passes

  pub draws : (slots id : ℕ) (v : View E) (c : List (ℕ × Option T)) → v.stage ≡ Idle → Allows Rule slots id (v, c) 1 (λ n. (n + 1) % 2 ^ 64) (drawn (step slots 1 1 0 none) (v, c))
  draws slots id v c idle s k one at small =
      let w : View E = record v { stage = Waits k.drawn } in
      let mine = k.each id v at in
      let none_yet : has_turn v.stage ≢ true = λ h. false≢true (sym (ap has_turn idle) ∙ h) in
      let n : slice_index s.words 1 ≡ k.drawn % 2 ^ 64 = ap (λ (ws : List ℕ). slice_index ws 1) k.words in
      let long : length (set s.views id w) ≡ length s.views = length-set s.views id w in
      let fits : (j : ℕ) (u : View E) → Fits by passes k.serving k.drawn (length s.views) s.homes k.log j u → Fits by passes k.serving (1 + k.drawn) (length (set s.views id w)) s.homes k.log j u
      = λ j u f. subst (λ (m : ℕ). Fits by passes k.serving (1 + k.drawn) m s.homes k.log j u) (sym long)
      (record { shows = f.shows; passes_are = f.passes_are; numbers = f.numbers; opens = f.opens; ticket = range_grows k.serving k.drawn (ticket_of u.stage) f.ticket; stands = f.stands }) in
      let own : Fits by passes k.serving (1 + k.drawn) (length (set s.views id w)) s.homes k.log id w
      = subst (λ (m : ℕ). Fits by passes k.serving (1 + k.drawn) m s.homes k.log id w) (sym long)
      (record { shows = mine.shows; passes_are = mine.passes_are; numbers = mine.numbers; opens = mine.opens; ticket = (omega (arith, k.tickets), omega arith); stands = tt }) in (
        w,
        keeps,
        tt,
        record {
          log = k.log;
          drawn = 1 + k.drawn;
          serving = k.serving;
          words = ap (λ (ws : List ℕ). set ws 1 ((slice_index ws 1 + 1) % 2 ^ 64)) k.words ∙ ap (λ (m : ℕ). length k.log % 2 ^ 64 ∷ m ∷ k.serving % 2 ^ 64 ∷ []) (omega arith);
          tickets = (let m = count_set s.views id v w at in let z : one_of (ticket_of v.stage) ≡ 0 = ap (λ (x : Stage E). one_of (ticket_of x)) idle in omega (arith, k.tickets));
          few = (omega (arith, long, k.few.0), k.few.1);
          slot = ⊎_elim (λ h. inl h) (λ t. inr (taken_stays s.views id v w at none_yet t)) k.slot;
          made = subst (λ (m : ℕ). All (λ x. by x ≤ m) k.log) (sym long) k.made;
          each = each_set (λ (j : ℕ) (u : View E). Fits by passes k.serving (1 + k.drawn) (length (set s.views id w)) s.homes k.log j u) s.views id w own (λ j u ne e. fits j u (k.each j u e));
          apart = pairs_set (λ (u x : View E). All (λ n. Apart n x.numbers) u.numbers × Differ (ticket_of u.stage) (ticket_of x.stage)) s.views id w
              (λ j u ne e. let d = differ_next k.serving k.drawn (ticket_of u.stage) (k.each j u e).ticket in
              (((k.apart id j v u (λ q. ne (sym q)) at e).0, d.0), ((k.apart j id u v ne e at).0, d.1)))
              k.apart;
        },
        (k.drawn, n, refl),
      )

  -- a load that finds another ticket changes nothing
  unmoved : (s : State (Option T) (View E)) (id i : ℕ) (v : View E) (c : List (ℕ × Option T)) → get_elem? s.views id ≡ some v → set s.words i (slice_index s.words i) ≡ s.words → Rule s → Rule (stepped s i (slice_index s.words i) id c v keeps)
  unmoved s id i v c at same k = subst Rule (λ j. record { words = sym same j; homes = s.homes; views = sym (set_again s.views id v at) j }) k

  words_stay : (a b c : ℕ) (ws : List ℕ) → ws ≡ a ∷ b ∷ c ∷ [] → set ws 2 (slice_index ws 2) ≡ ws
  words_stay a b c ws e = ap (λ (xs : List ℕ). set xs 2 (slice_index xs 2)) e ∙ sym e

  -- where the ticket is served, nobody has the slot
  home_at : (s : State (Option T) (View E)) (k : Rule s) (id t : ℕ) (v : View E) → get_elem? s.views id ≡ some v → v.stage ≡ Waits t → t ≡ k.serving → IsHome list k.log s.homes
  home_at s k id t v at waits now = ⊎_elim (λ h. h) (λ (x : IsTaken s.views).
      let f = k.each x.seat x.view x.sits in
      let theirs : ticket_of x.view.stage ≡ Some k.serving = turn_is_served by k.serving s.homes k.log x.view x.view.stage x.takes f.stands in
      let mine : ticket_of v.stage ≡ Some k.serving = ap ticket_of waits ∙ ap (λ (n : ℕ). let o : Option ℕ = Some n in o) now in
      dite (ℕ_discrete id x.seat)
      (λ same. absurd (false≢true (sym (ap has_turn waits) ∙ (ap (λ (u : View E). has_turn u.stage) (some-injective v x.view (sym at ∙ (ap (get_elem? s.views) same ∙ x.sits))) ∙ x.takes))))
      (λ ne. let d : Differ (Some k.serving) (Some k.serving) = subst (λ (z : Option ℕ × Option ℕ). Differ z.0 z.1) (λ i. (mine i, theirs i)) (k.apart id x.seat v x.view ne at x.sits).1 in absurd (d refl))) k.slot

  -- the turn comes: the slot leaves home
  comes : (s : State (Option T) (View E)) (k : Rule s) (id t : ℕ) (v : View E) (c : List (ℕ × Option T)) → get_elem? s.views id ≡ some v → v.stage ≡ Waits t → t ≡ k.serving → (h : IsHome list k.log s.homes)
      → Rule (stepped s 2 (slice_index s.words 2) id c (record v { seen = list h.value; stage = Holds t }) (takes 0 (Some h.value)))
  comes s k id t v c at waits now h =
      let w : View E = record v { seen = list h.value; stage = Holds t } in
      let mine = k.each id v at in
      let ours : ticket_of v.stage ≡ Some t = ap ticket_of waits in
      let out : List (maybe.Option (Option T)) = set s.homes 0 none in
      let out_is : out ≡ none ∷ [] = ap (λ (hs : List (maybe.Option (Option T))). set hs 0 none) h.at_home in
      let long : length (set s.views id w) ≡ length s.views = length-set s.views id w in
      let own : Fits by passes k.serving k.drawn (length s.views) out k.log id w = record {
        shows = λ _. shows_self by passes v.numbers (list h.value) k.log (sym h.list_is);
        passes_are = mine.passes_are;
        numbers = mine.numbers;
        opens = mine.opens;
        ticket = subst (InRange k.serving k.drawn) ours mine.ticket;
        stands = (now, out_is, h.list_is);
      } in
      let other : (j : ℕ) (u : View E) → j ≢ id → get_elem? s.views j ≡ some u → Fits by passes k.serving k.drawn (length s.views) out k.log j u = λ j u ne e.
      let f = k.each j u e in
      let d : Differ (Some k.serving) (ticket_of u.stage) = subst (λ (z : Option ℕ). Differ z (ticket_of u.stage)) (ours ∙ ap (λ (n : ℕ). let o : Option ℕ = Some n in o) now) (k.apart id j v u (λ q. ne (sym q)) at e).1 in
      record { shows = f.shows; passes_are = f.passes_are; numbers = f.numbers; opens = f.opens; ticket = f.ticket; stands = waits_on by k.serving k.serving s.homes out k.log k.log u u.stage d f.stands } in
      record {
        log = k.log;
        drawn = k.drawn;
        serving = k.serving;
        words = words_stay (length k.log % 2 ^ 64) (k.drawn % 2 ^ 64) (k.serving % 2 ^ 64) s.words k.words ∙ k.words;
        tickets = (let m = count_set s.views id v w at in let z : one_of (ticket_of v.stage) ≡ 1 = ap one_of ours in omega (arith, k.tickets));
        few = (omega (arith, long, k.few.0), k.few.1);
        slot = inr (record { seat = id; view = w; sits = set_here s.views id w (is_inside s.views id v at); takes = refl });
        made = subst (λ (m : ℕ). All (λ x. by x ≤ m) k.log) (sym long) k.made;
        each = subst (λ (m : ℕ). (j : ℕ) (u : View E) → get_elem? (set s.views id w) j ≡ some u → Fits by passes k.serving k.drawn m out k.log j u) (sym long)
            (each_set (λ (j : ℕ) (u : View E). Fits by passes k.serving k.drawn (length s.views) out k.log j u) s.views id w own other);
        apart = pairs_set (λ (u x : View E). All (λ n. Apart n x.numbers) u.numbers × Differ (ticket_of u.stage) (ticket_of x.stage)) s.views id w
            (λ j u ne e. let a = k.apart id j v u (λ q. ne (sym q)) at e in let b = k.apart j id u v ne e at in
            ((a.0, subst (λ (z : Option ℕ). Differ z (ticket_of u.stage)) ours a.1), (b.0, subst (λ (z : Option ℕ). Differ (ticket_of u.stage) z) ours b.1)))
            k.apart;
      }

  pub looks : (slots id t : ℕ) (v : View E) (c : List (ℕ × Option T)) → v.stage ≡ Waits t → 0 < length v.numbers → Allows Rule slots id (v, c) 2 (λ n. n) (looked list by (step slots 2 0 0 none) (v, c))
  looks slots id t v c waits some_number s k one at small =
      let me : Me (Option T) (View E) = (v, c) in
      let n : slice_index s.words 2 ≡ k.serving % 2 ^ 64 = ap (λ (ws : List ℕ). slice_index ws 2) k.words in
      let t_is : number_of v.stage ≡ t = ap number_of waits in
      let mine = k.each id v at in
      let range : (k.serving ≤ t) × (t < k.drawn) = subst (InRange k.serving k.drawn) (ap ticket_of waits) mine.ticket in
      dite (ℕ_discrete (slice_index s.words 2) (number_of v.stage % 2 ^ 64))
      (λ hit.
      let now : t ≡ k.serving = sym (is_served k.serving (count_tickets s.views) k.drawn t k.tickets (let b = count_bound s.views in omega (arith, k.few.0, k.few.1)) range.0 range.1 (sym n ∙ (hit ∙ ap (λ (m : ℕ). m % 2 ^ 64) t_is))) in
      let h = home_at s k id t v at waits now in
      let w : View E = record v { seen = list h.value; stage = Holds t } in
      let shows : Shows by v.passes v.numbers v.seen (list h.value)
      = subst (λ (z : ℕ × List E). Shows by z.0 v.numbers v.seen z.1) (λ i. (sym (mine.passes_are some_number) i, sym h.list_is i)) (mine.shows some_number) in (
        w,
        takes 0 (Some h.value),
        ap (λ (hs : List (maybe.Option (Option T))). get_elem? hs 0) h.at_home,
        comes s k id t v c at waits now h,
        let after : Me (Option T) (View E) = (w, (0, Some h.value) ∷ c) in subst (λ (b : Bool). MatchBool b (Came list by (number_of v.stage) me after) (after ≡ me)) (sym (eq-eqb (slice_index s.words 2) (number_of v.stage % 2 ^ 64) hit))
            (h.value, shows, λ i. (record v { seen = list h.value; stage = Holds (sym t_is i) }, (0, Some h.value) ∷ c)),
      ))
      (λ miss. (
        v,
        keeps,
        tt,
        unmoved s id 2 v c at (words_stay (length k.log % 2 ^ 64) (k.drawn % 2 ^ 64) (k.serving % 2 ^ 64) s.words k.words) k,
        subst (λ (b : Bool). MatchBool b (Came list by (number_of v.stage) me me) (me ≡ me)) (sym (ne_eqb (slice_index s.words 2) (number_of v.stage % 2 ^ 64) miss)) refl,
      ))

  -- the turn ends: the value comes home
  pub passes_on : (slots id t new : ℕ) (v : View E) (c : List (ℕ × Option T)) (x : T) → v.stage ≡ Holds t → new ≡ (1 + t) % 2 ^ 64 → c ≡ (0, Some x) ∷ [] → v.seen ≡ list x
      → Allows Rule slots id (v, c) 2 (λ _. new) (λ _. passed_on (step slots 2 new 0 none) (v, c) new)
  passes_on slots id t new v c x holds new_is hand seen s k one at small =
      let w : View E = record v { stage = Idle } in
      let mine = k.each id v at in
      let stands : (t ≡ k.serving) × (s.homes ≡ none ∷ []) × (v.seen ≡ k.log) = subst (λ (z : Stage E). Stands by k.serving s.homes k.log v z) holds mine.stands in
      let ours : ticket_of v.stage ≡ Some k.serving = ap ticket_of holds ∙ ap (λ (n : ℕ). let o : Option ℕ = Some n in o) stands.0 in
      let home : List (maybe.Option (Option T)) = put_back s.homes c in
      let home_is : home ≡ some (Some x) ∷ [] = ap (put_back s.homes) hand ∙ ap (λ (hs : List (maybe.Option (Option T))). set hs 0 (some (Some x))) stands.1 in
      let long : length (set s.views id w) ≡ length s.views = length-set s.views id w in
      let own : Fits by passes (1 + k.serving) k.drawn (length s.views) home k.log id w
      = record { shows = mine.shows; passes_are = mine.passes_are; numbers = mine.numbers; opens = mine.opens; ticket = tt; stands = tt } in
      let other : (j : ℕ) (u : View E) → j ≢ id → get_elem? s.views j ≡ some u → Fits by passes (1 + k.serving) k.drawn (length s.views) home k.log j u = λ j u ne e.
      let f = k.each j u e in
      let d : Differ (Some k.serving) (ticket_of u.stage) = subst (λ (z : Option ℕ). Differ z (ticket_of u.stage)) ours (k.apart id j v u (λ q. ne (sym q)) at e).1 in
      record { shows = f.shows; passes_are = f.passes_are; numbers = f.numbers; opens = f.opens; ticket = range_shrinks k.serving k.drawn (ticket_of u.stage) d f.ticket; stands = waits_on by k.serving (1 + k.serving) s.homes home k.log k.log u u.stage d f.stands } in (
        w,
        gives,
        tt,
        record {
          log = k.log;
          drawn = k.drawn;
          serving = 1 + k.serving;
          words = ap (λ (ws : List ℕ). set ws 2 new) k.words ∙ ap (λ (m : ℕ). length k.log % 2 ^ 64 ∷ k.drawn % 2 ^ 64 ∷ m ∷ []) (new_is ∙ ap (λ (m : ℕ). (1 + m) % 2 ^ 64) stands.0);
          tickets = (let m = count_set s.views id v w at in let z : one_of (ticket_of v.stage) ≡ 1 = ap one_of ours in omega (arith, k.tickets));
          few = (omega (arith, long, k.few.0), k.few.1);
          slot = inl (record { value = x; at_home = home_is; list_is = sym seen ∙ stands.2 });
          made = subst (λ (m : ℕ). All (λ x. by x ≤ m) k.log) (sym long) k.made;
          each = subst (λ (m : ℕ). (j : ℕ) (u : View E) → get_elem? (set s.views id w) j ≡ some u → Fits by passes (1 + k.serving) k.drawn m home k.log j u) (sym long)
              (each_set (λ (j : ℕ) (u : View E). Fits by passes (1 + k.serving) k.drawn (length s.views) home k.log j u) s.views id w own other);
          apart = pairs_set (λ (u y : View E). All (λ n. Apart n y.numbers) u.numbers × Differ (ticket_of u.stage) (ticket_of y.stage)) s.views id w
              (λ j u ne e. let d = differ_none (ticket_of u.stage) in (((k.apart id j v u (λ q. ne (sym q)) at e).0, d.0), ((k.apart j id u v ne e at).0, d.1)))
              k.apart;
        },
        refl,
      )

  -- an entry of the value in hand is noted
  pub notes : (slots id t : ℕ) (v : View E) (c : List (ℕ × Option T)) (x : T) (number : ℕ) (others : List ℕ) (e : E) (more : List E)
      → v.stage ≡ Holds t → c ≡ (0, Some x) ∷ [] → v.numbers ≡ number ∷ others → by e ≡ number → list x ≡ v.seen ++ e ∷ more
      → Allows Rule slots id (v, c) 0 (λ n. (n + 1) % 2 ^ 64) (noted list (step slots 0 1 0 none) (v, c))
  notes slots id t v c x number others e more holds hand numbered of_pass whole s k one at small =
      let w : View E = record v { seen = v.seen ++ e ∷ [] } in
      let mine = k.each id v at in
      let stands : (t ≡ k.serving) × (s.homes ≡ none ∷ []) × (v.seen ≡ k.log) = subst (λ (z : Stage E). Stands by k.serving s.homes k.log v z) holds mine.stands in
      let ours : ticket_of v.stage ≡ Some k.serving = ap ticket_of holds ∙ ap (λ (n : ℕ). let o : Option ℕ = Some n in o) stands.0 in
      let log : List E = k.log ++ e ∷ [] in
      let next_seen : v.seen ++ e ∷ [] ≡ one_more list v.seen c = sym (ap (one_more list v.seen) hand ∙ (ap (take (length v.seen + 1)) whole ∙ take-append-add v.seen (e ∷ more) 1)) in
      let log_is : v.seen ++ e ∷ [] ≡ log = ap (λ (xs : List E). xs ++ e ∷ []) stands.2 in
      let long : length (set s.views id w) ≡ length s.views = length-set s.views id w in
      let range : (1 ≤ number) × (number ≤ length s.views) = (subst (All (λ n. (1 ≤ n) × (n ≤ length s.views))) numbered mine.numbers).0 in
      let own : Fits by passes k.serving k.drawn (length s.views) s.homes log id w = record {
        shows = λ _. shows_self by passes v.numbers (v.seen ++ e ∷ []) log (sym log_is);
        passes_are = mine.passes_are;
        numbers = mine.numbers;
        opens = mine.opens;
        ticket = mine.ticket;
        stands = subst (λ (z : Stage E). Stands by k.serving s.homes log w z) (sym holds) (stands.0, stands.1, log_is);
      } in
      let other : (j : ℕ) (u : View E) → j ≢ id → get_elem? s.views j ≡ some u → Fits by passes k.serving k.drawn (length s.views) s.homes log j u = λ j u ne q.
      let f = k.each j u q in
      let a = k.apart id j v u (λ r. ne (sym r)) at q in
      let d : Differ (Some k.serving) (ticket_of u.stage) = subst (λ (z : Option ℕ). Differ z (ticket_of u.stage)) ours a.1 in
      let free : Apart number u.numbers = (subst (All (λ n. Apart n u.numbers)) numbered a.0).0 in
      let o : IsOther by passes u.numbers e = subst (λ (n : ℕ). Apart n u.numbers × (1 ≤ n) × (n ≤ passes)) (sym of_pass) (free, range.0, omega (arith, range.1, k.few.0)) in
      record { shows = λ h. shows_more by passes u.numbers u.seen k.log e o (f.shows h); passes_are = f.passes_are; numbers = f.numbers; opens = f.opens; ticket = f.ticket; stands = waits_on by k.serving k.serving s.homes s.homes k.log log u u.stage d f.stands } in (
        w,
        keeps,
        tt,
        record {
          log = log;
          drawn = k.drawn;
          serving = k.serving;
          words = ap (λ (ws : List ℕ). set ws 0 ((slice_index ws 0 + 1) % 2 ^ 64)) k.words ∙ ap (λ (m : ℕ). m ∷ k.drawn % 2 ^ 64 ∷ k.serving % 2 ^ 64 ∷ []) (omega (arith, length-append k.log (e ∷ [])));
          tickets = (let m = count_set s.views id v w at in omega (arith, k.tickets));
          few = (omega (arith, long, k.few.0), k.few.1);
          slot = inr (record { seat = id; view = w; sits = set_here s.views id w (is_inside s.views id v at); takes = ap has_turn holds });
          made = subst (λ (m : ℕ). All (λ x. by x ≤ m) log) (sym long) (all_more (λ x. by x ≤ length s.views) k.log e k.made (subst (λ (n : ℕ). n ≤ length s.views) (sym of_pass) range.1));
          each = subst (λ (m : ℕ). (j : ℕ) (u : View E) → get_elem? (set s.views id w) j ≡ some u → Fits by passes k.serving k.drawn m s.homes log j u) (sym long)
              (each_set (λ (j : ℕ) (u : View E). Fits by passes k.serving k.drawn (length s.views) s.homes log j u) s.views id w own other);
          apart = pairs_set (λ (u y : View E). All (λ n. Apart n y.numbers) u.numbers × Differ (ticket_of u.stage) (ticket_of y.stage)) s.views id w
              (λ j u ne q. (k.apart id j v u (λ r. ne (sym r)) at q, k.apart j id u v ne q at))
              k.apart;
        },
        (λ i. (record v { seen = next_seen i }, c)),
      )

  -- who has the turn has the ticket of its stage
  has_ticket : (x : Stage E) → has_turn x ≡ true → ticket_of x ≡ Some (number_of x)
  has_ticket Idle h = absurd (false≢true h)
  has_ticket (Waits t) h = refl
  has_ticket (Holds t) h = refl
  has_ticket (Empty t) h = refl
  has_ticket (Joined a b c d) h = absurd (false≢true h)

  -- and knows that it is served, and the list so far
  turn_stands : (serving : ℕ) (homes : List (maybe.Option (Option T))) (log : List E) (v : View E) (x : Stage E) → has_turn x ≡ true → Stands by serving homes log v x
      → (number_of x ≡ serving) × (v.seen ≡ log) × ((homes ≡ none ∷ []) ⊎ (homes ≡ some None ∷ []))
  turn_stands serving homes log v Idle h st = absurd (false≢true h)
  turn_stands serving homes log v (Waits t) h st = absurd (false≢true h)
  turn_stands serving homes log v (Holds t) h st = (st.0, st.2, inl st.1)
  turn_stands serving homes log v (Empty t) h st = (st.0, st.2, inr st.1)
  turn_stands serving homes log v (Joined a b c d) h st = absurd (false≢true h)

  zero_stays : (a b c : ℕ) (ws : List ℕ) → ws ≡ a ∷ b ∷ c ∷ [] → set ws 0 (slice_index ws 0) ≡ ws
  zero_stays a b c ws e = ap (λ (xs : List ℕ). set xs 0 (slice_index xs 0)) e ∙ sym e

  -- who has the turn moves the slot, out with it or home with nothing in it
  moves : (slots id i : ℕ) (v w : View E) (c : List (ℕ × Option T)) (a : Act (Option T)) (s : State (Option T) (View E)) (k : Rule s) → get_elem? s.views id ≡ some v → has_turn v.stage ≡ true → set s.words i (slice_index s.words i) ≡ s.words
      → w.seen ≡ v.seen → w.numbers ≡ v.numbers → w.passes ≡ v.passes → w.opens ≡ v.opens → has_turn w.stage ≡ true → number_of w.stage ≡ number_of v.stage
      → Stands by k.serving (homes_after s.homes c a) k.log w w.stage → Rule (stepped s i (slice_index s.words i) id c w a)
  moves slots id i v w c a s k at turn same seen numbers passes_are opens turn' number stands =
      let mine = k.each id v at in
      let st = turn_stands k.serving s.homes k.log v v.stage turn mine.stands in
      let ours : ticket_of v.stage ≡ Some k.serving = has_ticket v.stage turn ∙ ap (λ (n : ℕ). let o : Option ℕ = Some n in o) st.0 in
      let then : ticket_of w.stage ≡ Some k.serving = has_ticket w.stage turn' ∙ ap (λ (n : ℕ). let o : Option ℕ = Some n in o) (number ∙ st.0) in
      let alike : ticket_of v.stage ≡ ticket_of w.stage = ours ∙ sym then in
      let homes : List (maybe.Option (Option T)) = homes_after s.homes c a in
      let long : length (set s.views id w) ≡ length s.views = length-set s.views id w in
      let own : Fits by passes k.serving k.drawn (length s.views) homes k.log id w = record {
        shows = λ h. subst (λ (z : List ℕ × List E). Shows by passes z.0 z.1 k.log) (λ j. (sym numbers j, sym seen j)) (mine.shows (subst (λ (z : List ℕ). 0 < length z) numbers h));
        passes_are = λ h. passes_are ∙ mine.passes_are (subst (λ (z : List ℕ). 0 < length z) numbers h);
        numbers = subst (All (λ n. (1 ≤ n) × (n ≤ length s.views))) (sym numbers) mine.numbers;
        opens = λ h. let o = mine.opens (subst (λ (n : ℕ). 0 < n) opens h) in (o.0, opens ∙ o.1);
        ticket = subst (InRange k.serving k.drawn) alike mine.ticket;
        stands = stands;
      } in
      let other : (j : ℕ) (u : View E) → j ≢ id → get_elem? s.views j ≡ some u → Fits by passes k.serving k.drawn (length s.views) homes k.log j u = λ j u ne e.
      let f = k.each j u e in
      let d : Differ (Some k.serving) (ticket_of u.stage) = subst (λ (z : Option ℕ). Differ z (ticket_of u.stage)) ours (k.apart id j v u (λ q. ne (sym q)) at e).1 in
      record { shows = f.shows; passes_are = f.passes_are; numbers = f.numbers; opens = f.opens; ticket = f.ticket; stands = waits_on by k.serving k.serving s.homes homes k.log k.log u u.stage d f.stands } in
      record {
        log = k.log;
        drawn = k.drawn;
        serving = k.serving;
        words = same ∙ k.words;
        tickets = (let m = count_set s.views id v w at in let z : one_of (ticket_of v.stage) ≡ one_of (ticket_of w.stage) = ap one_of alike in omega (arith, k.tickets));
        few = (omega (arith, long, k.few.0), k.few.1);
        slot = inr (record { seat = id; view = w; sits = set_here s.views id w (is_inside s.views id v at); takes = turn' });
        made = subst (λ (m : ℕ). All (λ x. by x ≤ m) k.log) (sym long) k.made;
        each = subst (λ (m : ℕ). (j : ℕ) (u : View E) → get_elem? (set s.views id w) j ≡ some u → Fits by passes k.serving k.drawn m homes k.log j u) (sym long)
            (each_set (λ (j : ℕ) (u : View E). Fits by passes k.serving k.drawn (length s.views) homes k.log j u) s.views id w own other);
        apart = pairs_set (λ (u y : View E). All (λ n. Apart n y.numbers) u.numbers × Differ (ticket_of u.stage) (ticket_of y.stage)) s.views id w
            (λ j u ne e. let l = k.apart id j v u (λ q. ne (sym q)) at e in let r = k.apart j id u v ne e at in (
              (subst (All (λ n. Apart n u.numbers)) (sym numbers) l.0, subst (λ (z : Option ℕ). Differ z (ticket_of u.stage)) alike l.1),
              (subst (λ (z : List ℕ). All (λ n. Apart n z) u.numbers) (sym numbers) r.0, subst (λ (z : Option ℕ). Differ (ticket_of u.stage) z) alike r.1),
            ))
            k.apart;
      }

  -- the slot comes home with nothing in it
  pub empties : (slots id : ℕ) (v : View E) (c : List (ℕ × Option T)) → has_turn v.stage ≡ true → c ≡ (0, None) ∷ [] → Allows Rule slots id (v, c) 0 (λ n. n) (emptied (step slots 0 0 0 none) (v, c))
  empties slots id v c turn hand s k one at small =
      let w : View E = record v { stage = Empty (number_of v.stage) } in
      let st = turn_stands k.serving s.homes k.log v v.stage turn (k.each id v at).stands in
      let home : put_back s.homes c ≡ some None ∷ [] = ap (put_back s.homes) hand ∙ ⊎_elim
      (λ e. ap (λ (hs : List (maybe.Option (Option T))). set hs 0 (some None)) e)
      (λ e. ap (λ (hs : List (maybe.Option (Option T))). set hs 0 (some None)) e) st.2 in (
        w,
        gives,
        tt,
        moves slots id 0 v w c gives s k at turn (zero_stays (length k.log % 2 ^ 64) (k.drawn % 2 ^ 64) (k.serving % 2 ^ 64) s.words k.words) refl refl refl refl refl refl (st.0, home, st.1),
        refl,
      )

  -- the slot with nothing in it is taken
  pub fills : (slots id t : ℕ) (v : View E) (c : List (ℕ × Option T)) → v.stage ≡ Empty t → Allows Rule slots id (v, c) 2 (λ n. n) (filled (step slots 2 0 0 none) (v, c))
  fills slots id t v c empty s k one at small =
      let w : View E = record v { stage = Holds (number_of v.stage) } in
      let turn : has_turn v.stage ≡ true = ap has_turn empty in
      let st = turn_stands k.serving s.homes k.log v v.stage turn (k.each id v at).stands in
      let here = subst (λ (z : Stage E). Stands by k.serving s.homes k.log v z) empty (k.each id v at).stands in
      let out : set s.homes 0 none ≡ none ∷ [] = ap (λ (hs : List (maybe.Option (Option T))). set hs 0 none) here.1 in (
        w,
        takes 0 None,
        ap (λ (hs : List (maybe.Option (Option T))). get_elem? hs 0) here.1,
        moves slots id 2 v w c (takes 0 None) s k at turn (words_stay (length k.log % 2 ^ 64) (k.drawn % 2 ^ 64) (k.serving % 2 ^ 64) s.words k.words) refl refl refl refl refl refl (st.0, out, st.1),
        refl,
      )

  -- a pass made of two says what they knew, and rests
  pub settles : (slots id : ℕ) (v : View E) (c : List (ℕ × Option T)) → ticket_of v.stage ≡ None → has_turn v.stage ≡ false → Allows Rule slots id (v, c) 0 (λ n. n) (settled by (step slots 0 0 0 none) (v, c))
  settles slots id v c no_ticket no_turn s k one at small =
      let w : View E = record v { stage = Idle } in
      let mine = k.each id v at in
      let not_now : has_turn v.stage ≢ true = λ h. false≢true (sym no_turn ∙ h) in
      let long : length (set s.views id w) ≡ length s.views = length-set s.views id w in
      let own : Fits by passes k.serving k.drawn (length s.views) s.homes k.log id w
      = record { shows = mine.shows; passes_are = mine.passes_are; numbers = mine.numbers; opens = mine.opens; ticket = tt; stands = tt } in (
        w,
        keeps,
        tt,
        record {
          log = k.log;
          drawn = k.drawn;
          serving = k.serving;
          words = zero_stays (length k.log % 2 ^ 64) (k.drawn % 2 ^ 64) (k.serving % 2 ^ 64) s.words k.words ∙ k.words;
          tickets = (let m = count_set s.views id v w at in let z : one_of (ticket_of v.stage) ≡ 0 = ap one_of no_ticket in omega (arith, k.tickets));
          few = (omega (arith, long, k.few.0), k.few.1);
          slot = ⊎_elim (λ h. inl h) (λ t. inr (taken_stays s.views id v w at not_now t)) k.slot;
          made = subst (λ (m : ℕ). All (λ x. by x ≤ m) k.log) (sym long) k.made;
          each = subst (λ (m : ℕ). (j : ℕ) (u : View E) → get_elem? (set s.views id w) j ≡ some u → Fits by passes k.serving k.drawn m s.homes k.log j u) (sym long)
              (each_set (λ (j : ℕ) (u : View E). Fits by passes k.serving k.drawn (length s.views) s.homes k.log j u) s.views id w own (λ j u ne e. k.each j u e));
          apart = pairs_set (λ (u y : View E). All (λ n. Apart n y.numbers) u.numbers × Differ (ticket_of u.stage) (ticket_of y.stage)) s.views id w
              (λ j u ne e. let d = differ_none (ticket_of u.stage) in (((k.apart id j v u (λ q. ne (sym q)) at e).0, d.0), ((k.apart j id u v ne e at).0, d.1)))
              k.apart;
        },
        (λ seen seen' numbers numbers' is.
            let both = subst (λ (z : Stage E). Stands by k.serving s.homes k.log v z) is mine.stands in (refl, both.0, both.1)),
      )

  none_made : (xs : List E) → All (λ e. by e ≡ 0) xs → All (λ e. by e ≤ 1) xs
  none_made [] a = tt
  none_made (x ∷ xs) a = (omega (arith, a.0), none_made xs a.1)

  -- the table as it is made
  pub begins : (first : List E) (told : ℕ) → told ≡ length first → told < 2 ^ 64 → 1 ≤ passes → passes < 2 ^ 32 → All (λ e. by e ≡ 0) first
      → Rule (opening (told ∷ 1 ∷ 0 ∷ []) (None ∷ []) (founder first passes))
  begins first told is small at_least few before =
      let v : View E = founder first passes in
      let at_first : (j : ℕ) (u : View E) → get_elem? (v ∷ []) j ≡ some u → (j ≡ 0) × (v ≡ u) = at_first_of v in
      let homes : List (maybe.Option (Option T)) = some None ∷ [] in
      let mine : Fits by passes 0 1 1 homes first 0 v = record {
        shows = λ _. shows_self by passes (1 ∷ []) first first refl;
        passes_are = λ _. refl;
        numbers = ((omega arith, omega arith), tt);
        opens = λ _. (refl, refl);
        ticket = (omega arith, omega arith);
        stands = (refl, refl, refl);
      } in
      record {
        log = first;
        drawn = 1;
        serving = 0;
        words = ap (λ (m : ℕ). m ∷ 1 ∷ 0 ∷ []) (omega (arith, is, small));
        tickets = refl;
        few = (at_least, few);
        slot = inr (record { seat = 0; view = v; sits = refl; takes = refl });
        made = none_made first before;
        each = λ j u e. let q = at_first j u e in subst (λ (z : ℕ × View E). Fits by passes 0 1 1 homes first z.0 z.1) (λ i. (sym q.0 i, q.1 i)) mine;
        apart = λ i j u x ne a b. absurd (ne ((at_first i u a).0 ∙ sym (at_first j x b).0));
      }
