-- What the steps of a turn come to.
use Rattle.std.proofs.Common.{◌≡◌, ℕ, ◌-◌, List, [], ◌∷◌, ◌++◌, drop, length, sym, ap, ◌∙◌, subst, arith, Option, Some, None, length-append}
use Rattle.atomic_table.specs.Table.{Me}
use Rattle.history_lock.specs.Seen.{Shows, Adds, Turn}
use Rattle.history_lock.specs.declared.view.View.{View}
use Rattle.history_lock.specs.declared.view.Stage.TheVariants.{Idle}
use Rattle.history_lock.specs.Known.{LockId, known_of, is_idle, AtRest}
use Rattle.history_lock.specs.Phases.{Entered, HasLeft, HasNoted, HoldsSeen, Worked}
use Rattle.history_lock.proofs.Noting.{all_seen}

-- the value in hand
abbrev pub held_or : {T : Type 0} → T → List (ℕ × Option T) → T
held_or d ((k, Some x) ∷ hand) = x
held_or d _ = d

module _ {T E : Type 0} (list : T → List E) (by : E → ℕ) where
  abbrev M : Type 0
  M = Me (Option T) (View E)

  one_hand : (w : M) (x y : T) → w.1 ≡ (0, Some x) ∷ [] → w.1 ≡ (0, Some y) ∷ [] → x ≡ y
  one_hand w x y a b = sym (ap (held_or x) a) ∙ ap (held_or x) b

  -- when its turn has come, a seat has seen the list of the value in hand
  pub came : (v : View E) (ticket : ℕ) (w : M) → Entered list by v ticket w → HoldsSeen list ticket w
  came v ticket w e = record {
    count = e.count;
    value = e.value;
    ticket_is = e.ticket_is;
    holds = ap (λ (m : M). m.0.stage) e.me_is;
    hand = ap (λ (m : M). m.1) e.me_is;
    seen_is = ap (λ (m : M). m.0.seen) e.me_is;
  }

  -- what it sees then begins with what it had seen
  pub shown : (v : View E) (ticket : ℕ) (w : M) → Entered list by v ticket w → Shows by v.passes v.numbers v.seen w.0.seen
  shown v ticket w e = subst (Shows by v.passes v.numbers v.seen) (sym (ap (λ (m : M). m.0.seen) e.me_is)) e.shows

  -- the value that is taken out of the slot in hand has the list that was seen
  pub seen_of : (ticket : ℕ) (w : M) (taken : T) → HoldsSeen list ticket w → w.1 ≡ (0, Some taken) ∷ [] → w.0.seen ≡ list taken
  seen_of ticket w taken h hand = h.seen_is ∙ ap list (one_hand w h.value taken h.hand hand)

  put_back : (w w2 w3 : M) (value : T) → w2 ≡ (w.0, (0, None) ∷ []) → w3 ≡ (w2.0, (0, Some value) ∷ []) → w3 ≡ (w.0, (0, Some value) ∷ [])
  put_back w w2 w3 value two three =
      let f : View E → M = λ u. (u, (0, Some value) ∷ []) in
      three ∙ ap f (ap (λ (m : M). m.0) two)

  -- what the work added is left to note
  pub left_of : (number ticket count : ℕ) (w w2 w3 : M) (taken value : T) (then : List E → Type 0) → HoldsSeen list ticket w
      → w.1 ≡ (0, Some taken) ∷ [] → w2 ≡ (w.0, (0, None) ∷ []) → Adds by number (list taken) (list value) then → w3 ≡ (w2.0, (0, Some value) ∷ [])
      → w.0.numbers ≡ number ∷ drop 1 w.0.numbers → count ≡ length (list value) - length (list taken) → HasLeft list by count w3
  left_of number ticket count w w2 w3 taken value then h hand two a three numbered count_is =
      let all = put_back w w2 w3 value two three in
      let seen : w3.0.seen ≡ list taken = ap (λ (m : M). m.0.seen) all ∙ seen_of ticket w taken h hand in
      let lengths : length (list value) ≡ length (list taken ++ a.added) = ap length a.is_before_and_added in record {
        ticket = h.count;
        value = value;
        number = number;
        others = drop 1 w.0.numbers;
        more = a.added;
        holds = ap (λ (m : M). m.0.stage) all ∙ h.holds;
        hand = ap (λ (m : M). m.1) all;
        numbered = ap (λ (m : M). m.0.numbers) all ∙ numbered;
        list_is = a.is_before_and_added ∙ ap (λ (xs : List E). xs ++ a.added) (sym seen);
        of_pass = a.of_pass;
        count_is = omega (arith, length-append (list taken) a.added);
      }

  -- when that is noted, the work is done
  pub worked_of : (number ticket : ℕ) (w w2 w3 w4 : M) (taken value : T) (does : List E → List E → Type 0) → HoldsSeen list ticket w
      → w.1 ≡ (0, Some taken) ∷ [] → w2 ≡ (w.0, (0, None) ∷ []) → Adds by number (list taken) (list value) (does (list taken)) → w3 ≡ (w2.0, (0, Some value) ∷ []) → HasNoted list by w3 w4
      → Worked list by number w w4 (does w.0.seen)
  worked_of number ticket w w2 w3 w4 taken value does h hand two a three n =
      let all = put_back w w2 w3 value two three in
      let f : View E → View E = λ u. record u { seen = w4.0.seen } in
      let rest : w4.0 ≡ f w.0 = ap (λ (m : M). m.0) n.rest_is ∙ ap f (ap (λ (m : M). m.0) all) in
      let last : n.left.value ≡ value = one_hand w4 n.left.value value n.left.hand (ap (λ (m : M). m.1) n.rest_is ∙ ap (λ (m : M). m.1) all) in
      let seen : w4.0.seen ≡ list value = all_seen list by w4 n.left ∙ ap list last in record {
        holds = λ t now. record {
          count = now.count;
          value = n.left.value;
          ticket_is = now.ticket_is;
          holds = ap (λ (u : View E). u.stage) rest ∙ now.holds;
          hand = n.left.hand;
          seen_is = all_seen list by w4 n.left;
        };
        rest_is = rest;
        adds = subst (λ (xs : List E). Adds by number xs w4.0.seen (does xs)) (sym (seen_of ticket w taken h hand))
            (record { added = a.added; is_before_and_added = seen ∙ a.is_before_and_added; of_pass = a.of_pass; done = a.done });
      }

  -- and the turn is one
  pub turn_of : (lock : LockId) (number ticket : ℕ) (v : View E) (w w4 w5 : M) (does : List E → List E → Type 0) → Entered list by v ticket w
      → Worked list by number w w4 (does w.0.seen) → w5 ≡ (record w4.0 { stage = Idle }, [])
      → Turn by (known_of lock number v) w5.0.seen does
  turn_of lock number ticket v w w4 w5 does e k five = record {
    found = w.0.seen;
    shows = shown v ticket w e;
    adds = subst (λ (xs : List E). Adds by number w.0.seen xs (does w.0.seen)) (sym (ap (λ (m : M). m.0.seen) five)) k.adds;
  }

  -- after a turn the numbers are those before
  pub stays : (number ticket : ℕ) (v : View E) (w w4 w5 : M) (does : List E → Type 0) → Entered list by v ticket w
      → Worked list by number w w4 does → w5 ≡ (record w4.0 { stage = Idle }, []) → (w5.0.numbers ≡ v.numbers) × (w5.0.passes ≡ v.passes) × (w5.0.stage ≡ Idle) × (w5.1 ≡ [])
  stays number ticket v w w4 w5 does e k five = (
    ap (λ (m : M). m.0.numbers) five ∙ (ap (λ (u : View E). u.numbers) k.rest_is ∙ ap (λ (m : M). m.0.numbers) e.me_is),
    ap (λ (m : M). m.0.passes) five ∙ (ap (λ (u : View E). u.passes) k.rest_is ∙ ap (λ (m : M). m.0.passes) e.me_is),
    ap (λ (m : M). m.0.stage) five,
    ap (λ (m : M). m.1) five,
  )

  -- so the pass rests as before
  pub rested : (number ticket : ℕ) (v : View E) (w w4 w5 : M) (does : List E → Type 0) → Entered list by v ticket w
      → Worked list by number w w4 does → w5 ≡ (record w4.0 { stage = Idle }, []) → v.numbers ≡ number ∷ drop 1 v.numbers → AtRest number w5
  rested number ticket v w w4 w5 does e k five numbered = let s = stays number ticket v w w4 w5 does e k five in record {
    numbered = subst (λ (ns : List ℕ). ns ≡ number ∷ drop 1 ns) (sym s.0) numbered;
    idle = ap is_idle s.2;
    empty_handed = s.3;
  }
