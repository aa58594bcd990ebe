-- Moments up to a time, from a date on and after a time, as bounds of a range tell them.
use Rattle.std.proofs.Common.{◌≡◌, ℕ, ◌^◌, ◌<◌, ◌≤◌, Bool, cond, true, false, List, ◌∷◌, Option, None, Some, refl, sym, ap, ◌∙◌, subst, arith}
use Rattle.std.specs.Prelude.{IfNone, IfSome, IsSome, option_map, slice_get}
use Rattle.std.specs.declared.cmp.Ordering.{Ordering}
use Rattle.std.specs.declared.cmp.Ordering.TheVariants.{Less, Equal, Greater}
use Rattle.std.specs.BTreeMap.{BTreeMap, get}
use Rattle.std.specs.Global.{Box}
use Rattle.std.specs.Ordering.{is_eq, is_gt, is_lt, nat_cmp, ordering_reverse, ordering_then}
use Rattle.std.proofs.lemmas.Cmp.{ranked, tied_itself}
use Rattle.cdxj_index.specs.declared.entry_map.captures.Captures.TheVariants.{One, Many}
use Rattle.cdxj_index.specs.Maps.{HasNoneAfter, HasNoneFrom, HasNoneUntil, IsFirstAfter, IsFirstFrom, IsLastUntil, Shared, entry_of, held}
use Rattle.index_entry.specs.Order.{Moment, moment_of, moment_cmp}
use Rattle.index_entry.proofs.Orders.{equal_from_is_eq, moment_tied, moment_total}
use Rattle.index_entry.proofs.Members.{not_below_itself}
use Rattle.cdxj_index.proofs.Changes.{held_of_one}

-- several captures of a key
abbrev pub Places : Type 0
Places = Box (BTreeMap Moment Shared)

pub on_none : {X P : Type 0} (found : Option X) → P → IfNone found P
on_none None p = p
on_none (Some x) p = tt

-- how two moments stand, by their dates and then by their numbers
stands : (m n : Moment) (o p : Ordering) → nat_cmp m.0 n.0 ≡ o → nat_cmp m.1 n.1 ≡ p → moment_cmp m n ≡ ordering_then o p
stands m n o p e f = ap (λ a. ordering_then a (nat_cmp m.1 n.1)) e ∙ ap (ordering_then o) f

pub not_above : (m n : Moment) → is_gt (moment_cmp m n) ≡ false → m.0 ≤ n.0
not_above m n below = which (nat_cmp m.0 n.0) refl
  where
    which : (o : Ordering) → nat_cmp m.0 n.0 ≡ o → m.0 ≤ n.0
    which Less e = let lt : m.0 < n.0 = ranked m.0 n.0 Less (sym e) in omega arith
    which Equal e = let same : m.0 ≡ n.0 = ranked m.0 n.0 Equal (sym e) in omega arith
    which Greater e = let above : is_gt (moment_cmp m n) ≡ true = ap is_gt (ap (λ a. ordering_then a (nat_cmp m.1 n.1)) e) in cc

pub is_until : (m : Moment) (time : ℕ) → m.1 < 2 ^ 32 → m.0 ≤ time → is_gt (moment_cmp m (time, 4294967295)) ≡ false
is_until m time fits until = which (nat_cmp m.0 time) (nat_cmp m.1 4294967295) refl refl
  where
    which : (o p : Ordering) → nat_cmp m.0 time ≡ o → nat_cmp m.1 4294967295 ≡ p → is_gt (moment_cmp m (time, 4294967295)) ≡ false
    which Less p e f = ap is_gt (stands m (time, 4294967295) Less p e f)
    which Equal Less e f = ap is_gt (stands m (time, 4294967295) Equal Less e f)
    which Equal Equal e f = ap is_gt (stands m (time, 4294967295) Equal Equal e f)
    which Equal Greater e f = let above : 4294967295 < m.1 = ranked m.1 4294967295 Greater (sym f) in absurd (omega arith)
    which Greater p e f = let above : time < m.0 = ranked m.0 time Greater (sym e) in absurd (omega arith)

pub is_from : (m : Moment) (date : ℕ) → date ≤ m.0 → is_gt (moment_cmp (date, 0) m) ≡ false
is_from m date from = which (nat_cmp date m.0) (nat_cmp 0 m.1) refl refl
  where
    which : (o p : Ordering) → nat_cmp date m.0 ≡ o → nat_cmp 0 m.1 ≡ p → is_gt (moment_cmp (date, 0) m) ≡ false
    which Less p e f = ap is_gt (stands (date, 0) m Less p e f)
    which Equal Less e f = ap is_gt (stands (date, 0) m Equal Less e f)
    which Equal Equal e f = ap is_gt (stands (date, 0) m Equal Equal e f)
    which Equal Greater e f = let above : m.1 < 0 = ranked 0 m.1 Greater (sym f) in absurd (omega arith)
    which Greater p e f = let above : m.0 < date = ranked date m.0 Greater (sym e) in absurd (omega arith)

pub is_after : (m : Moment) (time : ℕ) → time < m.0 → moment_cmp (time, 4294967295) m ≡ Less
is_after m time after = which (nat_cmp time m.0) refl
  where
    which : (o : Ordering) → nat_cmp time m.0 ≡ o → moment_cmp (time, 4294967295) m ≡ Less
    which Less e = ap (λ a. ordering_then a (nat_cmp 4294967295 m.1)) e
    which Equal e = let same : time ≡ m.0 = ranked time m.0 Equal (sym e) in absurd (omega arith)
    which Greater e = let above : m.0 < time = ranked time m.0 Greater (sym e) in absurd (omega arith)

pub after_is : (m : Moment) (time : ℕ) → moment_cmp (time, 4294967295) m ≡ Less → m.1 < 2 ^ 32 → time < m.0
after_is m time below fits = which (nat_cmp time m.0) (nat_cmp 4294967295 m.1) refl refl
  where
    which : (o p : Ordering) → nat_cmp time m.0 ≡ o → nat_cmp 4294967295 m.1 ≡ p → time < m.0
    which Less p e f = ranked time m.0 Less (sym e)
    which Equal Less e f = let above : 4294967295 < m.1 = ranked 4294967295 m.1 Less (sym f) in absurd (omega arith)
    which Equal Equal e f = let other = stands (time, 4294967295) m Equal Equal e f in cc (other, below)
    which Equal Greater e f = let other = stands (time, 4294967295) m Equal Greater e f in cc (other, below)
    which Greater p e f = let other = stands (time, 4294967295) m Greater p e f in cc (other, below)

-- a moment that isn't above another isn't behind it
not_behind : (m n : Moment) → is_gt (moment_cmp m n) ≡ false → moment_cmp n m ≡ Less → ⊥
not_behind m n not_over less =
    let above : is_gt (moment_cmp m n) ≡ true = ap is_gt (moment_total.antisymm m n ∙ ap ordering_reverse less) in
    cc

not_before : (m n : Moment) → is_lt (moment_cmp m n) ≡ false → moment_cmp m n ≡ Less → ⊥
not_before m n not_under less = let under : is_lt (moment_cmp m n) ≡ true = ap is_lt less in cc

-- what the map holds where something is held
got : (places : Places) (m : Moment) → IsSome (held (Many places) m) → IsSome (get moment_cmp places.value m)
got places m some = inside (get moment_cmp places.value m) some
  where
    inside : (found : Option Shared) → IsSome (option_map entry_of found) → IsSome found
    inside None h = h
    inside (Some s) h = refl

pub none_held : (places : Places) (map : BTreeMap Moment Shared) (m : Moment) → map ≡ places.value → get moment_cmp map m ≡ None → held (Many places) m ≡ None
none_held places map m is none = ap (option_map entry_of) (subst (λ p. get moment_cmp p m ≡ None) is none)

-- ---- the ends of ranges

pub last_is : (places : Places) (map : BTreeMap Moment Shared) (time : ℕ) (m : Moment) (s : Shared) → map ≡ places.value → is_gt (moment_cmp m (time, 4294967295)) ≡ false → get moment_cmp map m ≡ Some s
    → ((q : Moment) → is_gt (moment_cmp q (time, 4294967295)) ≡ false → IsSome (get moment_cmp map q) → is_lt (moment_cmp m q) ≡ false) → IsLastUntil (Many places) time (entry_of s)
last_is places map time m s is within found greatest = record {
  place = m;
  there = ap (option_map entry_of) (subst (λ p. get moment_cmp p m ≡ Some s) is found);
  within = not_above m (time, 4294967295) within;
  last = λ other fits until some less. not_before m other (greatest other (is_until other time fits until) (subst (λ p. IsSome (get moment_cmp p other)) (sym is) (got places other some))) less;
}

pub first_is : (places : Places) (map : BTreeMap Moment Shared) (date : ℕ) (m : Moment) (s : Shared) → map ≡ places.value → is_gt (moment_cmp (date, 0) m) ≡ false → get moment_cmp map m ≡ Some s
    → ((q : Moment) → is_gt (moment_cmp (date, 0) q) ≡ false → IsSome (get moment_cmp map q) → is_gt (moment_cmp m q) ≡ false) → IsFirstFrom (Many places) date (entry_of s)
first_is places map date m s is within found least = record {
  place = m;
  there = ap (option_map entry_of) (subst (λ p. get moment_cmp p m ≡ Some s) is found);
  within = not_above (date, 0) m within;
  first = λ other from some less. not_behind m other (least other (is_from other date from) (subst (λ p. IsSome (get moment_cmp p other)) (sym is) (got places other some))) less;
}

pub next_is : (places : Places) (map : BTreeMap Moment Shared) (time : ℕ) (m : Moment) (s : Shared) → map ≡ places.value → moment_cmp (time, 4294967295) m ≡ Less → get moment_cmp map m ≡ Some s
    → ((q : Moment) → moment_cmp (time, 4294967295) q ≡ Less → IsSome (get moment_cmp map q) → is_gt (moment_cmp m q) ≡ false) → IsFirstAfter (Many places) time (entry_of s)
next_is places map time m s is within found least = record {
  place = m;
  there = ap (option_map entry_of) (subst (λ p. get moment_cmp p m ≡ Some s) is found);
  within = after_is m time within;
  first = λ other after some less. not_behind m other (least other (is_after other time after) (subst (λ p. IsSome (get moment_cmp p other)) (sym is) (got places other some))) less;
}

-- ---- a key with one capture

-- it is held in its place
here : (s : Shared) → held (One s) (moment_of (entry_of s)) ≡ Some (entry_of s)
here s = held_of_one s (moment_of (entry_of s)) ∙ ap (λ o. cond (is_eq o) (Some (entry_of s)) None) (tied_itself moment_total (moment_of (entry_of s)))

-- and nothing elsewhere
elsewhere : (s : Shared) (other : Moment) → (moment_of (entry_of s) ≡ other → ⊥) → held (One s) other ≡ None
elsewhere s other apart = held_of_one s other ∙ which (is_eq (moment_cmp (moment_of (entry_of s)) other)) refl
  where
    which : (b : Bool) → is_eq (moment_cmp (moment_of (entry_of s)) other) ≡ b → cond b (Some (entry_of s)) None ≡ None
    which true is = absurd (apart (moment_tied (moment_of (entry_of s)) other (equal_from_is_eq (moment_cmp (moment_of (entry_of s)) other) is)))
    which false is = refl

some_there : (s : Shared) (other : Moment) → IsSome (held (One s) other) → moment_of (entry_of s) ≡ other
some_there s other some = which (is_eq (moment_cmp (moment_of (entry_of s)) other)) refl (subst IsSome (held_of_one s other) some)
  where
    which : (b : Bool) → is_eq (moment_cmp (moment_of (entry_of s)) other) ≡ b → IsSome (cond b (Some (entry_of s)) None) → moment_of (entry_of s) ≡ other
    which true is h = moment_tied (moment_of (entry_of s)) other (equal_from_is_eq (moment_cmp (moment_of (entry_of s)) other) is)
    which false is h = cc

pub one_until : (s : Shared) (time : ℕ) → (entry_of s).date ≤ time → IsLastUntil (One s) time (entry_of s)
one_until s time until = record {
  place = moment_of (entry_of s);
  there = here s;
  within = until;
  last = λ other fits to some less. not_below_itself moment_cmp moment_total other (subst (λ m. moment_cmp m other ≡ Less) (some_there s other some) less);
}

pub one_from : (s : Shared) (date : ℕ) → date ≤ (entry_of s).date → IsFirstFrom (One s) date (entry_of s)
one_from s date from = record {
  place = moment_of (entry_of s);
  there = here s;
  within = from;
  first = λ other of some less. not_below_itself moment_cmp moment_total other (subst (λ m. moment_cmp other m ≡ Less) (some_there s other some) less);
}

pub one_after : (s : Shared) (time : ℕ) → time < (entry_of s).date → IsFirstAfter (One s) time (entry_of s)
one_after s time after = record {
  place = moment_of (entry_of s);
  there = here s;
  within = λ fits. after;
  first = λ other of some less. not_below_itself moment_cmp moment_total other (subst (λ m. moment_cmp other m ≡ Less) (some_there s other some) less);
}

pub none_until : (s : Shared) (time : ℕ) → time < (entry_of s).date → HasNoneUntil (One s) time
none_until s time after other fits until = elsewhere s other (λ is. let date : (entry_of s).date ≡ other.0 = ap (λ (m : Moment). m.0) is in absurd (omega arith))

pub none_from : (s : Shared) (date : ℕ) → (entry_of s).date < date → HasNoneFrom (One s) date
none_from s date before other from = elsewhere s other (λ is. let same : (entry_of s).date ≡ other.0 = ap (λ (m : Moment). m.0) is in absurd (omega arith))

pub none_after : (s : Shared) (time : ℕ) → (entry_of s).date ≤ time → HasNoneAfter (One s) time
none_after s time until other after = elsewhere s other (λ is. let date : (entry_of s).date ≡ other.0 = ap (λ (m : Moment). m.0) is in absurd (omega arith))

-- what is told of the first
pub told_first : {X : Type 0} (P : X → Type 0) (list rest : List X) (first : X) → list ≡ first ∷ rest → IfSome (slice_get list 0) P → P first
told_first P list rest first is told = subst (λ l. IfSome (slice_get l 0) P) is told
