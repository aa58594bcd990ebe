-- What the maps hold, and the lists of entries that they are seen as.
use Rattle.std.proofs.Common.{◌≡◌, ℕ, List, [], ◌∷◌, inl, inr, Option, None, Some, refl, sym, ap, ◌∙◌, subst}
use Rattle.std.specs.Prelude.{map, option_map, option_and_then}
use Rattle.std.specs.declared.cmp.Ordering.TheVariants.{Less}
use Rattle.std.specs.BTreeMap.{get, is_at}
use Rattle.std.specs.Cmp.Lexicographic.{slice_cmp}
use Rattle.std.specs.List.Sorted.{IsStrictlySortedBy}
use Rattle.std.specs.Map.{keys_of, lookup, values_of}
use Rattle.std.specs.Ordering.{nat_cmp, ordering_then}
use Rattle.std.proofs.lemmas.Cmp.{nat_list_cmp_total, tied_itself}
use Rattle.index_entry.specs.Facts.{Facts}
use Rattle.cdxj_index.specs.Maps.{AreKeys, AreOfKey, Captures, IsHeld, Keys, Shared, entries_of, entry_of, held, held_at, placed, shown, shown_all}
use Rattle.index_entry.specs.Order.{Moment, moment_of, moment_cmp, order}
use Rattle.index_entry.proofs.Orders.{moment_total, order_total}
use Rattle.index_entry.proofs.Members.{Among, Among-map, Among-map_back, Among-flat_map, Among-flat_map_back, Sorted-append, all_among, all_from_among}
use Rattle.cdxj_index.proofs.Places.{lookup-among, among-lookup}

-- ---- the captures of a key

-- an entry that is shown is held in its place
pub held_from_shown : (key : List ℕ) (captures : Captures) → AreOfKey key captures → (f : Facts) → Among (shown captures) f → (held captures (moment_of f) ≡ Some f) × (f.key ≡ key)
held_from_shown key captures are f h =
    let value = Among-map entry_of (values_of (placed captures)) f h in
    let entry = Among-map (λ (e : Moment × Shared). e.1) (placed captures) value.0 value.1 in
    let found : lookup (is_at (moment_cmp entry.0.0)) (placed captures) ≡ Some entry.0.1 = lookup-among moment_cmp moment_total (placed captures) are.ordered entry.0 entry.1 in
    let there : held captures entry.0.0 ≡ Some f = ap (option_map entry_of) found ∙ ap Some (ap entry_of entry.2 ∙ value.2) in
    let is = are.each entry.0.0 f there in
    (subst (λ m. held captures m ≡ Some f) (sym is.placed) there, is.keyed)

some_value : (found : Option Shared) (f : Facts) → option_map entry_of found ≡ Some f → (s : Shared) × (found ≡ Some s) × (entry_of s ≡ f)
some_value None f e = cc
some_value (Some s) f e = (s, refl, cc)

-- an entry that is held is shown
pub shown_from_held : (captures : Captures) (moment : Moment) (f : Facts) → held captures moment ≡ Some f → Among (shown captures) f
shown_from_held captures moment f there =
    let value = some_value (lookup (is_at (moment_cmp moment)) (placed captures)) f there in
    let entry = among-lookup moment_cmp moment_total (is_at (moment_cmp moment)) (placed captures) value.0 value.1 in
    let among : Among (values_of (placed captures)) entry.0.1 = Among-map_back (λ (e : Moment × Shared). e.1) (placed captures) entry.0 entry.1 in
    subst (Among (shown captures)) (ap entry_of entry.3 ∙ value.2) (Among-map_back entry_of (values_of (placed captures)) entry.0.1 among)

same_key_below : (f g : Facts) (m n : Moment) → f.key ≡ g.key → moment_of f ≡ m → moment_of g ≡ n → moment_cmp m n ≡ Less → order f g ≡ Less
same_key_below f g m n keyed at at₂ below =
    ap (λ k. ordering_then (slice_cmp nat_cmp k g.key) (moment_cmp (moment_of f) (moment_of g))) keyed
    ∙ ap (λ o. ordering_then o (moment_cmp (moment_of f) (moment_of g))) (tied_itself nat_list_cmp_total g.key)
    ∙ ap (λ p. moment_cmp p (moment_of g)) at ∙ ap (moment_cmp m) at₂ ∙ below

-- entries of one key in order of date and number are in order
sorted_pairs : (key : List ℕ) (pairs : List (Moment × Shared)) → IsStrictlySortedBy moment_cmp (keys_of pairs) → ((e : Moment × Shared) → Among pairs e → (moment_of (entry_of e.1) ≡ e.0) × ((entry_of e.1).key ≡ key)) → IsStrictlySortedBy order (map entry_of (values_of pairs))
unfolding IsStrictlySortedBy
sorted_pairs key [] sorted each = tt
sorted_pairs key (e ∷ pairs) sorted each =
    let here = each e (inl refl) in
    let first = entry_of e.1 in
    let P : Facts → Type 0 = λ f. order first f ≡ Less in (
      all_from_among P (map entry_of (values_of pairs)) (λ f h.
          let value = Among-map entry_of (values_of pairs) f h in
          let pair = Among-map (λ (p : Moment × Shared). p.1) pairs value.0 value.1 in
          let there = each pair.0 (inr pair.1) in
          let is : entry_of pair.0.1 ≡ f = ap entry_of pair.2 ∙ value.2 in
          let below : moment_cmp e.0 pair.0.0 ≡ Less = all_among (λ m. moment_cmp e.0 m ≡ Less) (keys_of pairs) sorted.0 pair.0.0 (Among-map_back (λ (p : Moment × Shared). p.0) pairs pair.0 pair.1) in
          subst P is (same_key_below first (entry_of pair.0.1) e.0 pair.0.0 (here.1 ∙ sym there.1) here.0 there.0 below)),
      sorted_pairs key pairs sorted.1 (λ p h. each p (inr h)),
    )

pub sorted_shown : (key : List ℕ) (captures : Captures) → AreOfKey key captures → IsStrictlySortedBy order (shown captures)
sorted_shown key captures are =
    sorted_pairs key (placed captures) are.ordered (λ e h.
    let found = lookup-among moment_cmp moment_total (placed captures) are.ordered e h in
    let is = are.each e.0 (entry_of e.1) (ap (option_map entry_of) found) in
    (is.placed, is.keyed))

-- ---- the captures of all keys

some_held : (found : Option Captures) (moment : Moment) (f : Facts) → option_and_then (λ captures. held captures moment) found ≡ Some f → (captures : Captures) × (found ≡ Some captures) × (held captures moment ≡ Some f)
some_held None moment f e = cc
some_held (Some captures) moment f e = (captures, refl, e)

pub captures_at : (keys : Keys) (key : List ℕ) (moment : Moment) (f : Facts) → held_at keys key moment ≡ Some f → (captures : Captures) × (get (slice_cmp nat_cmp) keys key ≡ Some captures) × (held captures moment ≡ Some f)
captures_at keys key moment f there = some_held (get (slice_cmp nat_cmp) keys key) moment f there

-- what is held at a place is an entry of that place
pub held_is : (keys : Keys) → AreKeys keys → (key : List ℕ) (moment : Moment) (f : Facts) → held_at keys key moment ≡ Some f → IsHeld key moment f
held_is keys are key moment f there =
    let at = captures_at keys key moment f there in
    (are.each key at.0 at.1).each moment f at.2

pub held_at_from_entries : (keys : Keys) → AreKeys keys → (f : Facts) → Among (entries_of keys) f → held_at keys f.key (moment_of f) ≡ Some f
held_at_from_entries keys are f h =
    let entry = Among-flat_map (λ (e : List ℕ × Captures). shown e.1) keys.entries f h in
    let found : get (slice_cmp nat_cmp) keys entry.0.0 ≡ Some entry.0.1 = lookup-among (slice_cmp nat_cmp) nat_list_cmp_total keys.entries are.ordered entry.0 entry.1 in
    let here = held_from_shown entry.0.0 entry.0.1 (are.each entry.0.0 entry.0.1 found) f entry.2 in
    ap (λ k. option_and_then (λ captures. held captures (moment_of f)) (get (slice_cmp nat_cmp) keys k)) here.1
    ∙ ap (option_and_then (λ captures. held captures (moment_of f))) found ∙ here.0

pub entries_from_held_at : (keys : Keys) (key : List ℕ) (moment : Moment) (f : Facts) → held_at keys key moment ≡ Some f → Among (entries_of keys) f
entries_from_held_at keys key moment f there =
    let at = captures_at keys key moment f there in
    let entry = among-lookup (slice_cmp nat_cmp) nat_list_cmp_total (is_at (slice_cmp nat_cmp key)) keys.entries at.0 at.1 in
    let here : Among (shown entry.0.1) f = subst (λ c. Among (shown c) f) (sym entry.3) (shown_from_held at.0 moment f at.2) in
    Among-flat_map_back (λ (e : List ℕ × Captures). shown e.1) keys.entries entry.0 f entry.1 here

pub key_below : (f g : Facts) (k l : List ℕ) → f.key ≡ k → g.key ≡ l → slice_cmp nat_cmp k l ≡ Less → order f g ≡ Less
key_below f g k l is is₂ below =
    ap (λ o. ordering_then o (moment_cmp (moment_of f) (moment_of g))) (ap (λ a. slice_cmp nat_cmp a g.key) is ∙ ap (slice_cmp nat_cmp k) is₂ ∙ below)

pub sorted_shown_all : (es : List (List ℕ × Captures)) → IsStrictlySortedBy (slice_cmp nat_cmp) (keys_of es) → ((e : List ℕ × Captures) → Among es e → AreOfKey e.0 e.1) → IsStrictlySortedBy order (shown_all es)
unfolding IsStrictlySortedBy
sorted_shown_all [] sorted each = tt
sorted_shown_all (e ∷ es) sorted each =
    Sorted-append order order_total (shown e.1) (shown_all es) (sorted_shown e.0 e.1 (each e (inl refl))) (sorted_shown_all es sorted.1 (λ p h. each p (inr h)))
    (λ f g h h₂.
    let later = Among-flat_map (λ (p : List ℕ × Captures). shown p.1) es g h₂ in
    let below : slice_cmp nat_cmp e.0 later.0.0 ≡ Less = all_among (λ k. slice_cmp nat_cmp e.0 k ≡ Less) (keys_of es) sorted.0 later.0.0 (Among-map_back (λ (p : List ℕ × Captures). p.0) es later.0 later.1) in
    key_below f g e.0 later.0.0 (held_from_shown e.0 e.1 (each e (inl refl)) f h).1 (held_from_shown later.0.0 later.0.1 (each later.0 (inr later.1)) g later.2).1 below)

pub are_among : (keys : Keys) → AreKeys keys → (e : List ℕ × Captures) → Among keys.entries e → AreOfKey e.0 e.1
are_among keys are e h = are.each e.0 e.1 (lookup-among (slice_cmp nat_cmp) nat_list_cmp_total keys.entries are.ordered e h)

pub sorted_entries : (keys : Keys) → AreKeys keys → IsStrictlySortedBy order (entries_of keys)
sorted_entries keys are = sorted_shown_all keys.entries are.ordered (are_among keys are)
