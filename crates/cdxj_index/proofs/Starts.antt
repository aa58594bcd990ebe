-- The entries whose key begins with some bytes stand together, at the first key that isn't below these bytes.
use Rattle.std.proofs.Common.{◌≡◌, ℕ, suc, ◌<◌, Option, Some, Bool, true, false, List, [], ◌∷◌, ◌++◌, ◌⊎◌, inl, inr, cond, length, take, drop, refl, sym, ap, ◌∙◌, subst, arith}
use Rattle.std.specs.Prelude.{filter, nat_eq, if◌then◌else◌}
use Rattle.std.specs.declared.cmp.Ordering.{Ordering}
use Rattle.std.specs.declared.cmp.Ordering.TheVariants.{Less, Equal, Greater}
use Rattle.std.specs.declared.ops.Bound.TheVariants.{Included, Unbounded}
use Rattle.std.specs.BTreeMap.Range.{entries_between, range_contains}
use Rattle.std.specs.Cmp.Lexicographic.{slice_cmp}
use Rattle.std.specs.List.{starts_with}
use Rattle.std.specs.List.Sorted.{IsStrictlySortedBy}
use Rattle.std.specs.Map.{keys_of}
use Rattle.std.specs.Ordering.{nat_cmp, is_le, ordering_then}
use Rattle.std.proofs.lemmas.Bool.{and_parts}
use Rattle.std.proofs.lemmas.Bool.Decides.{Decides-eqb}
use Rattle.std.proofs.lemmas.Cmp.{nat_cmp_total, nat_list_cmp_total, ranked, tied_itself}
use Rattle.std.proofs.lemmas.Slice.Eq.{bytes_eq-Decides, starts_is}
use Rattle.index_entry.specs.Facts.{Facts}
use Rattle.cdxj_index.specs.Maps.{AreKeys, AreOfKey, Captures, Keys, entries_of, keys_left, shown, shown_all, shown_while}
use Rattle.index_entry.specs.Order.{order}
use Rattle.index_entry.specs.Queries.{starting_with}
use Rattle.index_entry.proofs.Orders.{order_total}
use Rattle.index_entry.proofs.Members.{Among, Among-append, Among-append_left, Among-append_right, Among-filter, Among-filter_back, Among-flat_map, Among-flat_map_back, Among-map_back, Sorted-append, Sorted-filter, all_among, same_from_members}
use Rattle.cdxj_index.proofs.Held.{are_among, held_from_shown, key_below, sorted_entries, sorted_shown}

-- ---- bytes that begin with bytes

begins : (xs start : List ℕ) → starts_with nat_eq xs start ≡ true → xs ≡ start ++ drop (length start) xs
begins xs start is = (starts_is Decides-eqb xs start true (sym is)).0 refl

begins_back : (xs start rest : List ℕ) → xs ≡ start ++ rest → starts_with nat_eq xs start ≡ true
begins_back xs start rest is = (starts_is Decides-eqb xs start (starts_with nat_eq xs start) refl).1 rest is

first_bytes : (xs start : List ℕ) → starts_with nat_eq xs start ≡ true → take (length start) xs ≡ start
first_bytes xs start is = sym ((bytes_eq-Decides start (take (length start) xs)).0 is)

from_start : (start rest : List ℕ) → is_le (slice_cmp nat_cmp start (start ++ rest)) ≡ true
from_start [] [] = refl
from_start [] (y ∷ rest) = refl
from_start (s ∷ start) rest = ap (λ o. is_le (ordering_then o (slice_cmp nat_cmp start (start ++ rest)))) (tied_itself nat_cmp_total s) ∙ from_start start rest

between_here : (s x : ℕ) (start rest k : List ℕ) (o p : Ordering) → nat_cmp s x ≡ o → nat_cmp x s ≡ p → is_le (ordering_then (nat_cmp s x) (slice_cmp nat_cmp start k)) ≡ true → is_le (ordering_then (nat_cmp x s) (slice_cmp nat_cmp k (start ++ rest))) ≡ true
    → (is_le (slice_cmp nat_cmp start k) ≡ true → is_le (slice_cmp nat_cmp k (start ++ rest)) ≡ true → (more : List ℕ) × (k ≡ start ++ more))
    → (more : List ℕ) × (x ∷ k ≡ s ∷ (start ++ more))
between_here s x start rest k Greater p e f from until later = let past = ap (λ o. is_le (ordering_then o (slice_cmp nat_cmp start k))) e in cc
between_here s x start rest k Less Less e f from until later =
    let under : s < x = ranked s x Less (sym e) in
    let over : x < s = ranked x s Less (sym f) in
    absurd (omega arith)
between_here s x start rest k Less Equal e f from until later =
    let under : s < x = ranked s x Less (sym e) in
    let same : x ≡ s = ranked x s Equal (sym f) in
    absurd (omega arith)
between_here s x start rest k Less Greater e f from until later = let past = ap (λ o. is_le (ordering_then o (slice_cmp nat_cmp k (start ++ rest)))) f in cc
between_here s x start rest k Equal p e f from until later =
    let same : s ≡ x = ranked s x Equal (sym e) in
    let tied : nat_cmp x s ≡ Equal = ap (nat_cmp x) same ∙ tied_itself nat_cmp_total x in
    let more = later (sym (ap (λ o. is_le (ordering_then o (slice_cmp nat_cmp start k))) e) ∙ from) (sym (ap (λ o. is_le (ordering_then o (slice_cmp nat_cmp k (start ++ rest)))) tied) ∙ until) in
    (more.0, ap (λ y. y ∷ k) (sym same) ∙ ap (λ l. s ∷ l) more.1)

-- what lies between bytes and such that begin with them begins with them too
between : (start rest k : List ℕ) → is_le (slice_cmp nat_cmp start k) ≡ true → is_le (slice_cmp nat_cmp k (start ++ rest)) ≡ true → (more : List ℕ) × (k ≡ start ++ more)
between [] rest k from until = (k, refl)
between (s ∷ start) rest [] from until = cc
between (s ∷ start) rest (x ∷ k) from until = between_here s x start rest k (nat_cmp s x) (nat_cmp x s) refl refl from until (between start rest k)

starts_between : (start k l : List ℕ) → is_le (slice_cmp nat_cmp start k) ≡ true → slice_cmp nat_cmp k l ≡ Less → starts_with nat_eq l start ≡ true → starts_with nat_eq k start ≡ true
starts_between start k l from below is =
    let more = between start (drop (length start) l) k from (ap is_le (ap (slice_cmp nat_cmp k) (sym (begins l start is)) ∙ below)) in
    begins_back k start more.0 more.1

is_from : (start k : List ℕ) → starts_with nat_eq k start ≡ true → is_le (slice_cmp nat_cmp start k) ≡ true
is_from start k is = ap (λ l. is_le (slice_cmp nat_cmp start l)) (begins k start is) ∙ from_start start (drop (length start) k)

-- ---- the keys from these bytes on

abbrev pub keys_from : List ℕ → List (List ℕ × Captures) → List (List ℕ × Captures)
keys_from start es = filter (λ e. range_contains (slice_cmp nat_cmp) (Included start) Unbounded e.0) es

kept_keys : (b : Bool) (e : List ℕ × Captures) (es : List (List ℕ × Captures)) (ks : List (List ℕ)) → keys_of es ≡ ks → keys_of (cond b (e ∷ es) es) ≡ cond b (e.0 ∷ ks) ks
kept_keys true e es ks is = ap (λ l. e.0 ∷ l) is
kept_keys false e es ks is = is

keys-filter : (q : List ℕ → Bool) (es : List (List ℕ × Captures)) → keys_of (filter (λ e. q e.0) es) ≡ filter q (keys_of es)
keys-filter q [] = refl
keys-filter q (e ∷ es) = kept_keys (q e.0) e (filter (λ f. q f.0) es) (filter q (keys_of es)) (keys-filter q es)

sorted_from : (start : List ℕ) (es : List (List ℕ × Captures)) → IsStrictlySortedBy (slice_cmp nat_cmp) (keys_of es) → IsStrictlySortedBy (slice_cmp nat_cmp) (keys_of (keys_from start es))
sorted_from start es sorted =
    let q = λ (k : List ℕ). range_contains (slice_cmp nat_cmp) (Included start) Unbounded k in
    subst (IsStrictlySortedBy (slice_cmp nat_cmp)) (sym (keys-filter q es)) (Sorted-filter (slice_cmp nat_cmp) nat_list_cmp_total q (keys_of es) sorted)

among_from : (start : List ℕ) (es : List (List ℕ × Captures)) (e : List ℕ × Captures) → Among (keys_from start es) e → Among es e × (is_le (slice_cmp nat_cmp start e.0) ≡ true)
among_from start es e h =
    let kept = Among-filter (λ (f : List ℕ × Captures). range_contains (slice_cmp nat_cmp) (Included start) Unbounded f.0) es e h in
    (kept.0, (and_parts (is_le (slice_cmp nat_cmp start e.0)) true kept.1).0)

among_from_back : (start : List ℕ) (es : List (List ℕ × Captures)) (e : List ℕ × Captures) → Among es e → is_le (slice_cmp nat_cmp start e.0) ≡ true → Among (keys_from start es) e
among_from_back start es e h from =
    Among-filter_back (λ (f : List ℕ × Captures). range_contains (slice_cmp nat_cmp) (Included start) Unbounded f.0) es e h (cc from)

-- ---- the entries of the first keys that begin with these bytes

while_here : (start : List ℕ) (e : List ℕ × Captures) (es : List (List ℕ × Captures)) (f : Facts) (b : Bool) → starts_with nat_eq e.0 start ≡ b
    → (Among (shown_while start es) f → (d : List ℕ × Captures) × Among es d × (starts_with nat_eq d.0 start ≡ true) × Among (shown d.1) f)
    → Among (cond b (shown e.1 ++ shown_while start es) []) f
    → (d : List ℕ × Captures) × ((e ≡ d) ⊎ Among es d) × (starts_with nat_eq d.0 start ≡ true) × Among (shown d.1) f
while_here start e es f true is rest h =
    elim (Among-append (shown e.1) (shown_while start es) f h) [
      | inl a ↦ (e, inl refl, is, a)
      | inr a ↦ let later = rest a in (later.0, inr later.1, later.2, later.3)
    ]
while_here start e es f false is rest h = absurd h

Among-while : (start : List ℕ) (es : List (List ℕ × Captures)) (f : Facts) → Among (shown_while start es) f → (e : List ℕ × Captures) × Among es e × (starts_with nat_eq e.0 start ≡ true) × Among (shown e.1) f
Among-while start [] f h = absurd h
Among-while start (e ∷ es) f h = while_here start e es f (starts_with nat_eq e.0 start) refl (Among-while start es f) h

Among-while_back : (start : List ℕ) (es : List (List ℕ × Captures)) → IsStrictlySortedBy (slice_cmp nat_cmp) (keys_of es) → ((e : List ℕ × Captures) → Among es e → is_le (slice_cmp nat_cmp start e.0) ≡ true)
    → (e : List ℕ × Captures) → Among es e → starts_with nat_eq e.0 start ≡ true → (f : Facts) → Among (shown e.1) f → Among (shown_while start es) f
unfolding IsStrictlySortedBy
Among-while_back start [] sorted from e h is f a = absurd h
Among-while_back start (first ∷ es) sorted from e (inl same) is f a =
    let here : starts_with nat_eq first.0 start ≡ true = ap (λ (d : List ℕ × Captures). starts_with nat_eq d.0 start) same ∙ is in
    let there : Among (shown first.1) f = subst (λ (d : List ℕ × Captures). Among (shown d.1) f) (sym same) a in
    subst (λ b. Among (cond b (shown first.1 ++ shown_while start es) []) f) (sym here) (Among-append_left (shown first.1) (shown_while start es) f there)
Among-while_back start (first ∷ es) sorted from e (inr h) is f a =
    let below : slice_cmp nat_cmp first.0 e.0 ≡ Less = all_among (λ k. slice_cmp nat_cmp first.0 k ≡ Less) (keys_of es) sorted.0 e.0 (Among-map_back (λ (d : List ℕ × Captures). d.0) es e h) in
    let here : starts_with nat_eq first.0 start ≡ true = starts_between start first.0 e.0 (from first (inl refl)) below is in
    subst (λ b. Among (cond b (shown first.1 ++ shown_while start es) []) f) (sym here)
    (Among-append_right (shown first.1) (shown_while start es) f (Among-while_back start es sorted.1 (λ d d_in. from d (inr d_in)) e h is f a))

sorted_cond : (b : Bool) (es : List Facts) → IsStrictlySortedBy order es → IsStrictlySortedBy order (cond b es [])
unfolding IsStrictlySortedBy
sorted_cond true es sorted = sorted
sorted_cond false es sorted = tt

sorted_while : (start : List ℕ) (es : List (List ℕ × Captures)) → IsStrictlySortedBy (slice_cmp nat_cmp) (keys_of es) → ((e : List ℕ × Captures) → Among es e → AreOfKey e.0 e.1) → IsStrictlySortedBy order (shown_while start es)
unfolding IsStrictlySortedBy
sorted_while start [] sorted each = tt
sorted_while start (e ∷ es) sorted each =
    sorted_cond (starts_with nat_eq e.0 start) (shown e.1 ++ shown_while start es)
    (Sorted-append order order_total (shown e.1) (shown_while start es) (sorted_shown e.0 e.1 (each e (inl refl))) (sorted_while start es sorted.1 (λ p h. each p (inr h)))
    (λ f g h h₂.
    let later = Among-while start es g h₂ in
    let below : slice_cmp nat_cmp e.0 later.0.0 ≡ Less = all_among (λ k. slice_cmp nat_cmp e.0 k ≡ Less) (keys_of es) sorted.0 later.0.0 (Among-map_back (λ (p : List ℕ × Captures). p.0) es later.0 later.1) in
    key_below f g e.0 later.0.0 (held_from_shown e.0 e.1 (each e (inl refl)) f h).1 (held_from_shown later.0.0 later.0.1 (each later.0 (inr later.1)) g later.3).1 below))

-- ---- the entries whose key begins with these bytes

starting-is : (keys : Keys) (start : List ℕ) → AreKeys keys → shown_while start (keys_from start keys.entries) ≡ starting_with start (entries_of keys)
starting-is keys start are =
    let from = keys_from start keys.entries in
    let sorted = sorted_from start keys.entries are.ordered in
    let test = λ (e : Facts). starts_with nat_eq e.key start in
    same_from_members order order_total (shown_while start from) (starting_with start (entries_of keys))
    (sorted_while start from sorted (λ e h. are_among keys are e (among_from start keys.entries e h).0))
    (Sorted-filter order order_total test (entries_of keys) (sorted_entries keys are))
    (λ f h.
    let at = Among-while start from f h in
    let among = (among_from start keys.entries at.0 at.1).0 in
    let keyed : f.key ≡ at.0.0 = (held_from_shown at.0.0 at.0.1 (are_among keys are at.0 among) f at.3).1 in
    Among-filter_back test (entries_of keys) f (Among-flat_map_back (λ (e : List ℕ × Captures). shown e.1) keys.entries at.0 f among at.3) (ap (λ k. starts_with nat_eq k start) keyed ∙ at.2))
    (λ f h.
    let kept = Among-filter test (entries_of keys) f h in
    let at = Among-flat_map (λ (e : List ℕ × Captures). shown e.1) keys.entries f kept.0 in
    let keyed : f.key ≡ at.0.0 = (held_from_shown at.0.0 at.0.1 (are_among keys are at.0 at.1) f at.2).1 in
    let is : starts_with nat_eq at.0.0 start ≡ true = ap (λ k. starts_with nat_eq k start) (sym keyed) ∙ kept.1 in
    Among-while_back start from sorted (λ e e_in. (among_from start keys.entries e e_in).1) at.0 (among_from_back start keys.entries at.0 at.1 (is_from start at.0.0 is)) is f at.2)

-- none does if the first of these keys doesn't
none_start : (start : List ℕ) (es rest : List (List ℕ × Captures)) (first : List ℕ × Captures) → es ≡ first ∷ rest → starts_with nat_eq first.0 start ≡ false → shown_while start es ≡ []
none_start start es rest first is other = ap (shown_while start) is ∙ ap (λ b. cond b (shown first.1 ++ shown_while start rest) []) other

-- ---- the three ways in which a search for them begins

pub starting_from : (keys : Keys) (start bytes first again : List ℕ) (es : List (List ℕ × Captures)) → AreKeys keys → bytes ≡ start → starts_with nat_eq first bytes ≡ true → again ≡ first → es ≡ keys_from start keys.entries
    → shown_while (take (length bytes) again) es ≡ starting_with start (entries_of keys)
starting_from keys start bytes first again es are is starts same list =
    ap (λ b. shown_while (take (length bytes) b) es) same ∙ ap (λ b. shown_while b es) (first_bytes first bytes starts) ∙ ap (λ b. shown_while b es) is ∙ ap (shown_while start) list ∙ starting-is keys start are

pub starting_none : (keys : Keys) (start bytes k : List ℕ) (first : List ℕ × Captures) (es rest : List (List ℕ × Captures)) → AreKeys keys → bytes ≡ start → k ≡ first.0 → starts_with nat_eq k bytes ≡ false → es ≡ first ∷ rest → es ≡ keys_from start keys.entries
    → [] ≡ starting_with start (entries_of keys)
starting_none keys start bytes k first es rest are is same other listed list =
    let none : starts_with nat_eq first.0 start ≡ false = ap (λ b. starts_with nat_eq b start) (sym same) ∙ ap (starts_with nat_eq k) (sym is) ∙ other in
    sym (none_start start es rest first listed none) ∙ ap (shown_while start) list ∙ starting-is keys start are

pub starting_nothing : (keys : Keys) (start : List ℕ) (es : List (List ℕ × Captures)) → AreKeys keys → es ≡ [] → es ≡ keys_from start keys.entries → [] ≡ starting_with start (entries_of keys)
starting_nothing keys start es are none list = ap (shown_while start) (sym none ∙ list) ∙ starting-is keys start are

-- one key fewer is left
pub fewer_left : (keys : Option (List (List ℕ × Captures))) (old new : List (List ℕ × Captures)) (first : List ℕ × Captures) → Some old ≡ keys → old ≡ first ∷ new → length new < keys_left keys
fewer_left keys old new first is steps =
    let all : keys_left keys ≡ length old = ap keys_left (sym is) in
    let one : length old ≡ suc (length new) = ap length steps in
    omega (arith, all, one)

-- ---- all keys

-- all keys lie between no bounds
pub all_between : (keys : List (List ℕ × Captures)) → entries_between (slice_cmp nat_cmp) Unbounded Unbounded keys ≡ keys
all_between [] = refl
all_between (e ∷ keys) = ap (λ l. e ∷ l) (all_between keys)

-- all keys begin with no bytes
pub all_begin : (keys : List (List ℕ × Captures)) → shown_while [] keys ≡ shown_all keys
all_begin [] = refl
all_begin (e ∷ keys) =
    ap (λ b. if b then shown e.1 ++ shown_while [] keys else []) (begins_back e.0 [] e.0 refl) ∙ ap (λ l. shown e.1 ++ l) (all_begin keys)
