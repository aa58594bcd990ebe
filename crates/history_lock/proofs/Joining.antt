-- Two passes are made one.
use Rattle.std.proofs.Common.{◌≡◌, ◌≢◌, ◌⊎◌, ℕ, ◌<◌, ◌≤◌, Bool, true, false, List, [], ◌∷◌, ◌++◌, length, set, sym, refl, ap, ◌∙◌, subst, ⊎_elim, inl, inr, arith, Option, nat_le, drop, length-set}
use Rattle.std.proofs.lemmas.Bool.{false≢true}
use Rattle.std.proofs.lemmas.Bool.Decides.{nat_tests}
use mathlib.Core.Option.{some}
use lib.ListN.{get_elem?}
use Rattle.atomic_table.proofs.Lists.{at_set, set_else}
use Rattle.atomic_table.specs.Table.{Me, Joins}
use Rattle.history_lock.specs.Seen.{All, Apart, IsOther, Shows}
use Rattle.history_lock.specs.declared.view.View.{View}
use Rattle.history_lock.specs.declared.view.Stage.{Stage}
use Rattle.history_lock.specs.declared.view.Stage.TheVariants.{Idle}
use Rattle.history_lock.specs.Rule.{ticket_of, one_of, has_turn, Differ, Fits, Kept}
use Rattle.history_lock.specs.Steps.{longer, joined, Settles}
use Rattle.history_lock.specs.Known.{is_idle, spent, AtRest}
use Rattle.history_lock.proofs.Views.{each_set, pairs_set, count_set, taken_stays}
use Rattle.history_lock.proofs.Ends.{set_turned, all_both, all_join, all_true}
use Rattle.history_lock.proofs.Keeps.{differ_none, shows_self}
use Rattle.history_lock.proofs.Merging.{between, all_front, all_back}

module _ {E : Type 0} (by : E → ℕ) (passes : ℕ) where
  -- the list shows what either pass has seen, and behind it the list so far has entries of neither
  abbrev BothShow : List ℕ → List ℕ → List E → List E → List E → List E → Type 0
  BothShow ns ms xs ys log z = Shows by passes ns xs z × Shows by passes ms ys z × Shows by passes (ns ++ ms) z log

  neither : (ns ms : List ℕ) (e : E) → IsOther by passes ns e → IsOther by passes ms e → IsOther by passes (ns ++ ms) e
  neither ns ms e a b = (all_join (λ m. by e ≢ m) ns ms a.0 b.0, a.1, a.2)

  longer_first : (ns ms : List ℕ) (xs ys log : List E) → Shows by passes ns xs log → Shows by passes ms ys log → length ys ≤ length xs → BothShow ns ms xs ys log xs
  longer_first ns ms xs ys log a b le =
      let r = between ys xs b.more a.more (sym b.is_seen_and_more ∙ a.is_seen_and_more) le in
      let behind : All (IsOther by passes ms) (r.0 ++ a.more) = subst (All (IsOther by passes ms)) r.2 b.of_others in (
        shows_self by passes ns xs xs refl,
        record { more = r.0; is_seen_and_more = r.1; of_others = all_front (IsOther by passes ms) r.0 a.more behind },
        record {
          more = a.more;
          is_seen_and_more = a.is_seen_and_more;
          of_others = all_both (IsOther by passes ns) (IsOther by passes ms) (IsOther by passes (ns ++ ms)) (neither ns ms) a.more a.of_others (all_back (IsOther by passes ms) r.0 a.more behind);
        },
      )

  longer_second : (ns ms : List ℕ) (xs ys log : List E) → Shows by passes ns xs log → Shows by passes ms ys log → length xs ≤ length ys → BothShow ns ms xs ys log ys
  longer_second ns ms xs ys log a b le =
      let r = between xs ys a.more b.more (sym a.is_seen_and_more ∙ b.is_seen_and_more) le in
      let behind : All (IsOther by passes ns) (r.0 ++ b.more) = subst (All (IsOther by passes ns)) r.2 a.of_others in (
        record { more = r.0; is_seen_and_more = r.1; of_others = all_front (IsOther by passes ns) r.0 b.more behind },
        shows_self by passes ms ys ys refl,
        record {
          more = b.more;
          is_seen_and_more = b.is_seen_and_more;
          of_others = all_both (IsOther by passes ns) (IsOther by passes ms) (IsOther by passes (ns ++ ms)) (neither ns ms) b.more (all_back (IsOther by passes ns) r.0 b.more behind) b.of_others;
        },
      )

  both_show : (ns ms : List ℕ) (xs ys log : List E) → Shows by passes ns xs log → Shows by passes ms ys log → (t : Bool) → nat_le (length ys) (length xs) ≡ t → BothShow ns ms xs ys log (longer xs ys)
  both_show ns ms xs ys log a b true is = rw is (longer_first ns ms xs ys log a b (grind (arith, nat_tests)))
  both_show ns ms xs ys log a b false is = rw is (longer_second ns ms xs ys log a b (grind (arith, nat_tests)))

module _ {T E : Type 0} (list : T → List E) (by : E → ℕ) (passes : ℕ) where
  pub joins : (id other : ℕ) (v w : View E) → v.stage ≡ Idle → w.stage ≡ Idle → 0 < length v.numbers → 0 < length w.numbers
      → Joins {S = Option T} (Kept list by passes) id v other w (joined v w) spent
  joins id other v w idle idle' some_number some_number' s k at apart_ids found =
      let both : View E = joined v w in
      let mine = k.each id v at in
      let at' : get_elem? s.views other ≡ some w = sym (set_else s.views id other both apart_ids) ∙ found in
      let theirs = k.each other w at' in
      let front : List (View E) = set s.views other spent in
      let at_front : get_elem? front id ≡ some v = set_else s.views other id spent (λ q. apart_ids (sym q)) ∙ at in
      let after : List (View E) = set front id both in
      let n : ℕ = length s.views in
      let long : length after ≡ n = length-set front id both ∙ length-set s.views other spent in
      let not_mine : has_turn v.stage ≢ true = λ h. false≢true (sym (ap has_turn idle) ∙ h) in
      let not_theirs : has_turn w.stage ≢ true = λ h. false≢true (sym (ap has_turn idle') ∙ h) in
      let K : ℕ → View E → Type 0 = Fits by passes k.serving k.drawn n s.homes k.log in
      let sights = both_show by passes v.numbers w.numbers v.seen w.seen k.log (mine.shows some_number) (theirs.shows some_number') (nat_le (length w.seen) (length v.seen)) refl in
      let passes_are : v.passes ≡ passes = mine.passes_are some_number in
      let own : K id both = record {
        shows = λ _. sights.2;
        passes_are = λ _. passes_are;
        numbers = all_join (λ m. (1 ≤ m) × (m ≤ n)) v.numbers w.numbers mine.numbers theirs.numbers;
        opens = mine.opens;
        ticket = tt;
        stands = subst (λ (m : ℕ). Shows by m v.numbers v.seen both.seen × Shows by m w.numbers w.seen both.seen) (sym passes_are) (sights.0, sights.1);
      } in
      let nothing : K other spent = record {
        shows = λ none. absurd (omega (arith, none));
        passes_are = λ none. absurd (omega (arith, none));
        numbers = tt;
        opens = λ none. absurd (omega (arith, none));
        ticket = tt;
        stands = tt;
      } in
      let R : View E → View E → Type 0 = λ u y. All (λ m. Apart m y.numbers) u.numbers × Differ (ticket_of u.stage) (ticket_of y.stage) in
      let no_numbers : (ns : List ℕ) → All (λ m. Apart m []) ns = all_true (λ m. Apart m []) (λ m. tt) in
      let beside_spent : (j : ℕ) (u : View E) → R spent u × R u spent = λ j u. let d = differ_none (ticket_of u.stage) in ((tt, d.0), (no_numbers u.numbers, d.1)) in
      let beside_both : (j : ℕ) (u : View E) → j ≢ id → get_elem? front j ≡ some u → R both u × R u both = λ j u ne e. ⊎_elim
      (λ (t : (j ≡ other) × (spent ≡ u)). subst (λ (z : View E). R both z × R z both) t.1 ((no_numbers both.numbers, tt), (tt, tt)))
      (λ (t : (j ≢ other) × (get_elem? s.views j ≡ some u)).
      let a = k.apart id j v u (λ q. ne (sym q)) at t.1 in
      let a' = k.apart j id u v ne t.1 at in
      let b = k.apart other j w u (λ q. t.0 (sym q)) at' t.1 in
      let b' = k.apart j other u w t.0 t.1 at' in
      let d = differ_none (ticket_of u.stage) in (
        (all_join (λ m. Apart m u.numbers) v.numbers w.numbers a.0 b.0, d.0),
        (all_both (λ m. Apart m v.numbers) (λ m. Apart m w.numbers) (λ m. Apart m (v.numbers ++ w.numbers)) (λ m. all_join (λ i. m ≢ i) v.numbers w.numbers) u.numbers a'.0 b'.0, d.1),
      ))
      (at_set s.views other j spent u e) in
      subst (λ (vs : List (View E)). Kept list by passes (record { words = s.words; homes = s.homes; views = vs })) (sym (set_turned s.views id other both spent apart_ids)) (record {
        log = k.log;
        drawn = k.drawn;
        serving = k.serving;
        words = k.words;
        tickets = (let a = count_set s.views other w spent at' in let b = count_set front id v both at_front in let x : one_of (ticket_of v.stage) ≡ 0 = ap (λ (z : Stage E). one_of (ticket_of z)) idle in
            let y : one_of (ticket_of w.stage) ≡ 0 = ap (λ (z : Stage E). one_of (ticket_of z)) idle' in omega (arith, k.tickets));
        few = (omega (arith, long, k.few.0), k.few.1);
        slot = ⊎_elim (λ h. inl h) (λ t. inr (taken_stays front id v both at_front not_mine (taken_stays s.views other w spent at' not_theirs t))) k.slot;
        made = subst (λ (m : ℕ). All (λ e. by e ≤ m) k.log) (sym long) k.made;
        each = subst (λ (m : ℕ). (j : ℕ) (u : View E) → get_elem? after j ≡ some u → Fits by passes k.serving k.drawn m s.homes k.log j u) (sym long)
            (each_set K front id both own (λ j u ne e. each_set K s.views other spent nothing (λ i y _ q. k.each i y q) j u e));
        apart = pairs_set R front id both beside_both (pairs_set R s.views other spent (λ j u _ _. beside_spent j u) k.apart);
      })

-- a list goes on beginning with its first, where more is put behind
first_stays : (n : ℕ) (xs ys : List ℕ) → xs ≡ n ∷ drop 1 xs → xs ++ ys ≡ n ∷ drop 1 (xs ++ ys)
first_stays n xs ys e =
    let longer_is : xs ++ ys ≡ n ∷ (drop 1 xs ++ ys) = ap (λ (zs : List ℕ). zs ++ ys) e in
    longer_is ∙ ap (λ (zs : List ℕ). n ∷ zs) (sym (ap (λ (zs : List ℕ). drop 1 zs) longer_is))

one_of_two : {E : Type 0} (xs ys : List E) (t : Bool) → nat_le (length ys) (length xs) ≡ t → (longer xs ys ≡ xs) ⊎ (longer xs ys ≡ ys)
one_of_two xs ys true is = rw is (inl refl)
one_of_two xs ys false is = rw is (inr refl)

-- what the two calls of a join come to
pub record BothKnown {T E : Type 0} (by : E → ℕ) (number : ℕ) (a b w : Me (Option T) (View E)) : Type 0 where
  pub rest : AtRest number w
  pub numbers : w.0.numbers ≡ a.0.numbers ++ b.0.numbers
  pub passes : w.0.passes ≡ a.0.passes
  pub one : (w.0.seen ≡ a.0.seen) ⊎ (w.0.seen ≡ b.0.seen)
  pub first : Shows by a.0.passes a.0.numbers a.0.seen w.0.seen
  pub second : Shows by a.0.passes b.0.numbers b.0.seen w.0.seen

module _ {T E : Type 0} (by : E → ℕ) where
  pub both_known : (number : ℕ) (a b j w : Me (Option T) (View E)) → AtRest number a → j ≡ (joined a.0 b.0, a.1) → Settles by j w → BothKnown by number a b w
  both_known number a b j w rest joined_is told =
      let t = told a.0.seen b.0.seen a.0.numbers b.0.numbers (ap (λ (m : Me (Option T) (View E)). m.0.stage) joined_is) in
      let numbers : w.0.numbers ≡ a.0.numbers ++ b.0.numbers = ap (λ (m : Me (Option T) (View E)). m.0.numbers) t.0 ∙ ap (λ (m : Me (Option T) (View E)). m.0.numbers) joined_is in
      let seen : w.0.seen ≡ j.0.seen = ap (λ (m : Me (Option T) (View E)). m.0.seen) t.0 in
      let longer_is : j.0.seen ≡ longer a.0.seen b.0.seen = ap (λ (m : Me (Option T) (View E)). m.0.seen) joined_is in
      let passes : j.0.passes ≡ a.0.passes = ap (λ (m : Me (Option T) (View E)). m.0.passes) joined_is in record {
        rest = record {
          numbered = subst (λ (ns : List ℕ). ns ≡ number ∷ drop 1 ns) (sym numbers) (first_stays number a.0.numbers b.0.numbers rest.numbered);
          idle = ap (λ (m : Me (Option T) (View E)). is_idle m.0.stage) t.0;
          empty_handed = ap (λ (m : Me (Option T) (View E)). m.1) t.0 ∙ (ap (λ (m : Me (Option T) (View E)). m.1) joined_is ∙ rest.empty_handed);
        };
        numbers = numbers;
        passes = ap (λ (m : Me (Option T) (View E)). m.0.passes) t.0 ∙ passes;
        one = ⊎_elim (λ e. inl (seen ∙ (longer_is ∙ e))) (λ e. inr (seen ∙ (longer_is ∙ e))) (one_of_two a.0.seen b.0.seen (nat_le (length b.0.seen) (length a.0.seen)) refl);
        first = subst (λ (z : ℕ × List E). Shows by z.0 a.0.numbers a.0.seen z.1) (λ i. (passes i, sym seen i)) t.1;
        second = subst (λ (z : ℕ × List E). Shows by z.0 b.0.numbers b.0.seen z.1) (λ i. (passes i, sym seen i)) t.2;
      }
