-- Lists of entries in order: one more in its place, those that pass a test, and the one of a number.
use Rattle.std.proofs.Common.{◌≡◌, ◌≢◌, ℕ, suc, Bool, true, false, not, ◌==◌, List, [], ◌∷◌, ◌⊎◌, inl, inr, cond, length, None, Some, refl, sym, ap, ◌∙◌, subst, arith}
use Rattle.std.specs.declared.cmp.Ordering.{Ordering}
use Rattle.std.specs.declared.cmp.Ordering.TheVariants.{Less, Equal, Greater}
use Rattle.std.specs.List.{AllByRecursion}
use Rattle.std.specs.List.Sorted.{IsStrictlySortedBy}
use Rattle.std.specs.Ordering.{is_lt, ordering_reverse}
use Rattle.std.proofs.lemmas.Bool.{eqb-false, eqb-true}
use Rattle.index_entry.specs.Facts.{Facts}
use Rattle.index_entry.specs.Order.{order, comes_before, with_entry, without}
use Rattle.index_entry.specs.Queries.{with_number}
use Rattle.index_entry.proofs.Orders.{order_total}
use Rattle.index_entry.proofs.Members.{Among, all_among, all_from_among, Among-filter, Among-filter_back}

-- the entries are in strict order
abbrev pub InOrder : List Facts → Type 0
InOrder entries = IsStrictlySortedBy order entries

-- ---- one more in its place

split_first : (b : Bool) (e first : Facts) (others put : List Facts) (f : Facts) → (Among put f → (e ≡ f) ⊎ Among others f) → Among (cond b (first ∷ put) (e ∷ first ∷ others)) f → (e ≡ f) ⊎ ((first ≡ f) ⊎ Among others f)
split_first true e first others put f rest (inl is) = inr (inl is)
split_first true e first others put f rest (inr h) = elim (rest h) [ inl a ↦ inl a | inr b ↦ inr (inr b) ]
split_first false e first others put f rest (inl is) = inl is
split_first false e first others put f rest (inr h) = inr h

pub Among-with_entry : (e : Facts) (entries : List Facts) (f : Facts) → Among (with_entry e entries) f → (e ≡ f) ⊎ Among entries f
Among-with_entry e [] f h = h
Among-with_entry e (first ∷ others) f h = split_first (comes_before first e) e first others (with_entry e others) f (Among-with_entry e others f) h

join_first : (b : Bool) (e first : Facts) (others put : List Facts) (f : Facts) → ((e ≡ f) ⊎ Among others f → Among put f) → (e ≡ f) ⊎ ((first ≡ f) ⊎ Among others f) → Among (cond b (first ∷ put) (e ∷ first ∷ others)) f
join_first true e first others put f rest (inl is) = inr (rest (inl is))
join_first true e first others put f rest (inr (inl is)) = inl is
join_first true e first others put f rest (inr (inr h)) = inr (rest (inr h))
join_first false e first others put f rest (inl is) = inl is
join_first false e first others put f rest (inr h) = inr h

pub Among-with_entry_back : (e : Facts) (entries : List Facts) (f : Facts) → (e ≡ f) ⊎ Among entries f → Among (with_entry e entries) f
Among-with_entry_back e [] f h = h
Among-with_entry_back e (first ∷ others) f h = join_first (comes_before first e) e first others (with_entry e others) f (Among-with_entry_back e others f) h

below_from_order : (o : Ordering) → is_lt o ≡ true → o ≡ Less
below_from_order Less e = refl
below_from_order Equal e = cc
below_from_order Greater e = cc

above_from_order : (o : Ordering) → is_lt o ≡ false → o ≢ Equal → ordering_reverse o ≡ Less
above_from_order Less e apart = cc
above_from_order Equal e apart = absurd (apart refl)
above_from_order Greater e apart = refl

below_put : (first e : Facts) (others : List Facts) → order first e ≡ Less → AllByRecursion (λ f. order first f ≡ Less) others → AllByRecursion (λ f. order first f ≡ Less) (with_entry e others)
below_put first e others below all =
    let P : Facts → Type 0 = λ f. order first f ≡ Less in
    all_from_among P (with_entry e others) (λ f h. elim (Among-with_entry e others f h) [ inl is ↦ subst P is below | inr among ↦ all_among P others all f among ])

ordered_first : (b : Bool) (e first : Facts) (others : List Facts) → comes_before first e ≡ b → order first e ≢ Equal → InOrder (first ∷ others) → InOrder (with_entry e others) → InOrder (cond b (first ∷ with_entry e others) (e ∷ first ∷ others))
unfolding IsStrictlySortedBy
ordered_first true e first others is apart sorted put = (below_put first e others (below_from_order (order first e) is) sorted.0, put)
ordered_first false e first others is apart sorted put =
    let below : order e first ≡ Less = order_total.antisymm e first ∙ above_from_order (order first e) is apart in
    let P : Facts → Type 0 = λ f. order e f ≡ Less in
    let rest = all_from_among P others (λ f h. order_total.trans e first f below (all_among (λ g. order first g ≡ Less) others sorted.0 f h)) in
    ((below, rest), sorted)

pub InOrder-with_entry : (e : Facts) (entries : List Facts) → InOrder entries → ((f : Facts) → Among entries f → order f e ≢ Equal) → InOrder (with_entry e entries)
unfolding IsStrictlySortedBy
InOrder-with_entry e [] sorted apart = (tt, tt)
InOrder-with_entry e (first ∷ others) sorted apart =
    ordered_first (comes_before first e) e first others refl (apart first (inl refl)) sorted (InOrder-with_entry e others sorted.1 (λ f h. apart f (inr h)))

length-first : (b : Bool) (e first : Facts) (others put : List Facts) → length put ≡ suc (length others) → length (cond b (first ∷ put) (e ∷ first ∷ others)) ≡ suc (suc (length others))
length-first true e first others put long = ap suc long
length-first false e first others put long = refl

pub length-with_entry : (e : Facts) (entries : List Facts) → length (with_entry e entries) ≡ suc (length entries)
length-with_entry e [] = refl
length-with_entry e (first ∷ others) = length-first (comes_before first e) e first others (with_entry e others) (length-with_entry e others)

-- ---- the entry of a number

pub number_same : (a b : ℕ) → (a == b) ≡ true → a ≡ b
number_same a b e = eqb-true a b e

found_first : (b : Bool) (n : ℕ) (first : Facts) (others : List Facts) (f : Facts) → (first.number == n) ≡ b → (with_number n others ≡ Some f → Among others f × (f.number ≡ n)) → cond b (Some first) (with_number n others) ≡ Some f → ((first ≡ f) ⊎ Among others f) × (f.number ≡ n)
found_first true n first others f is rest e =
    let same : first ≡ f = cc in
    (inl same, sym (ap (λ g. g.number) same) ∙ number_same first.number n is)
found_first false n first others f is rest e = (inr (rest e).0, (rest e).1)

pub with_number-some : (n : ℕ) (entries : List Facts) (f : Facts) → with_number n entries ≡ Some f → Among entries f × (f.number ≡ n)
with_number-some n [] f e = cc
with_number-some n (first ∷ others) f e = found_first (first.number == n) n first others f refl (with_number-some n others f) e

absent_first : (b : Bool) (n : ℕ) (first : Facts) (others : List Facts) (f : Facts) → (first.number == n) ≡ b → (with_number n others ≡ None → Among others f → f.number ≡ n → ⊥) → cond b (Some first) (with_number n others) ≡ None → (first ≡ f) ⊎ Among others f → f.number ≡ n → ⊥
absent_first true n first others f is rest e h same = cc
absent_first false n first others f is rest e (inl here) same = eqb-false first.number n is (ap (λ g. g.number) here ∙ same)
absent_first false n first others f is rest e (inr h) same = rest e h same

pub with_number-none : (n : ℕ) (entries : List Facts) → with_number n entries ≡ None → (f : Facts) → Among entries f → f.number ≡ n → ⊥
with_number-none n [] e f h = absurd h
with_number-none n (first ∷ others) e f h = absent_first (first.number == n) n first others f refl (λ e₂ a. with_number-none n others e₂ f a) e h

-- ---- all but those of a number

differs : (a b : ℕ) → a ≢ b → not (a == b) ≡ true
differs a b apart = grind arith

pub Among-without : (n : ℕ) (entries : List Facts) (f : Facts) → Among (without n entries) f → Among entries f × (f.number ≢ n)
Among-without n entries f h =
    let kept = Among-filter (λ (e : Facts). not (e.number == n)) entries f h in
    (kept.0, λ same. grind arith)

pub Among-without_back : (n : ℕ) (entries : List Facts) (f : Facts) → Among entries f → f.number ≢ n → Among (without n entries) f
Among-without_back n entries f h apart = Among-filter_back (λ (e : Facts). not (e.number == n)) entries f h (differs f.number n apart)

-- where none has the number, all stay
kept_first : (b : Bool) (first : Facts) (others kept : List Facts) → b ≡ true → kept ≡ others → cond b (first ∷ kept) kept ≡ first ∷ others
kept_first true first others kept passes same = ap (λ rest. first ∷ rest) same
kept_first false first others kept passes same = cc

pub without-absent : (n : ℕ) (entries : List Facts) → ((f : Facts) → Among entries f → f.number ≢ n) → without n entries ≡ entries
without-absent n [] absent = refl
without-absent n (first ∷ others) absent =
    kept_first (not (first.number == n)) first others (without n others) (differs first.number n (absent first (inl refl))) (without-absent n others (λ f h. absent f (inr h)))
