-- What the calls of an index owe, over its maps.
use Rattle.std.proofs.Common.{Result, Ok, Err, ◌≡◌, ◌≢◌, ℕ, suc, ◌+◌, ◌<◌, ◌≤◌, ◌-◌, true, false, List, [], Option, None, Some, sym, ap, ◌∙◌, subst, arith, bytes_eq}
use Rattle.std.specs.Prelude.{if◌then◌else◌, is_err, is_some, OnErr, OnOk, IfNone, IfSome, IsSome, option_and_then, option_map}
use Rattle.std.specs.BTreeMap.{BTreeMap, Updates, btree_map_len, get}
use Rattle.std.specs.Cmp.Lexicographic.{slice_cmp}
use Rattle.std.specs.List.Sorted.{IsStrictlySortedBy}
use Rattle.std.specs.Option.{option_map_or}
use Rattle.std.specs.Ordering.{nat_cmp}
use Rattle.std.proofs.lemmas.Slice.Eq.{bytes_eq-Decides}
use Rattle.index_entry.specs.Facts.{Facts}
use Rattle.cdxj_index.specs.Maps.{AreKeys, AreMaps, AreNumbers, AreOfKey, Captures, HasNoneAfter, HasNoneFrom, HasNoneUntil, IsFirstAfter, IsFirstFrom, IsLastUntil, Keys, Puts, SameKeys, Shared, Takes, entries_of, entry_of, held, numbered, shown}
use Rattle.index_entry.specs.Order.{Moment, moment_of, order, with_entry, without}
use Rattle.index_entry.specs.Queries.{IsIndex, IsNearest, of_key, with_number}
use Rattle.index_entry.proofs.Orders.{order_total}
use Rattle.index_entry.proofs.Members.{Among, Among-filter, Among-filter_back, Sorted-filter, among_from_contains, contains_from_among, same_from_members}
use Rattle.index_entry.proofs.Entries.{with_number-none, without-absent}
use Rattle.cdxj_index.proofs.Held.{captures_at, entries_from_held_at, held_at_from_entries, held_from_shown, shown_from_held, sorted_entries, sorted_shown}
use Rattle.cdxj_index.proofs.Changes.{entries_put, entries_same, entries_taken}
use Rattle.cdxj_index.proofs.Numbers.{AreNumbers-put, AreNumbers-take, AreNumbers-undone, alone, numbered-is}
use Rattle.cdxj_index.proofs.Nearest.{nearest-after, nearest-before, nearest-no_key, not_earlier}

pub at_some : {X : Type 0} (P : X → Type 0) (found : Option X) (x : X) → found ≡ Some x → IfSome found P → P x
at_some P found x is told = subst (λ f. IfSome f P) is told

pub at_none : {X P : Type 0} (found : Option X) → found ≡ None → IfNone found P → P
at_none {X} {P} found is told = subst (λ f. IfNone f P) is told

pub if_some_weaker : {X : Type 0} (P Q : X → Type 0) (found : Option X) → ((x : X) → P x → Q x) → IfSome found P → IfSome found Q
if_some_weaker P Q None weaker told = told
if_some_weaker P Q (Some x) weaker told = weaker x told

pub if_none_weaker : {X P Q : Type 0} (found : Option X) → (P → Q) → IfNone found P → IfNone found Q
if_none_weaker None weaker told = weaker told
if_none_weaker (Some x) weaker told = told

-- ---- the list

pub is_index : (keys : Keys) (numbers : BTreeMap ℕ Shared) → AreMaps keys numbers → IsIndex (entries_of keys)
is_index keys numbers are = record {
  in_order = sorted_entries keys are.of_keys;
  alone = λ a b h h₂ same. alone (entries_of keys) numbers are.of_numbers b a (among_from_contains (entries_of keys) b h₂) (among_from_contains (entries_of keys) a h) same;
}

key_is : (key : List ℕ) (f : Facts) → bytes_eq key f.key ≡ true → key ≡ f.key
key_is key f is = (bytes_eq-Decides key f.key).0 is

is_key : (key : List ℕ) (f : Facts) → f.key ≡ key → bytes_eq key f.key ≡ true
is_key key f is = (bytes_eq-Decides key f.key).1 (sym is)

tt_sorted : IsStrictlySortedBy order []
unfolding IsStrictlySortedBy
tt_sorted = tt

-- the entries of a key are those of its captures
pub of_key_is : (keys : Keys) (key : List ℕ) (found : Option Captures) → AreKeys keys → found ≡ get (slice_cmp nat_cmp) keys key → option_map_or shown found [] ≡ of_key key (entries_of keys)
of_key_is keys key None are is =
    same_from_members order order_total [] (of_key key (entries_of keys)) tt_sorted (Sorted-filter order order_total (λ (e : Facts). bytes_eq key e.key) (entries_of keys) (sorted_entries keys are))
    (λ f h. absurd h)
    (λ f h.
    let kept = Among-filter (λ (e : Facts). bytes_eq key e.key) (entries_of keys) f h in
    nearest-no_key keys key are (sym is) f (contains_from_among (entries_of keys) f kept.0) (sym (key_is key f kept.1)))
of_key_is keys key (Some captures) are is =
    let of = are.each key captures (sym is) in
    same_from_members order order_total (shown captures) (of_key key (entries_of keys)) (sorted_shown key captures of) (Sorted-filter order order_total (λ (e : Facts). bytes_eq key e.key) (entries_of keys) (sorted_entries keys are))
    (λ f h.
    let there = held_from_shown key captures of f h in
    let at = ap (λ o. option_and_then (λ c. held c (moment_of f)) o) (sym is) ∙ there.0 in
    Among-filter_back (λ (e : Facts). bytes_eq key e.key) (entries_of keys) f (entries_from_held_at keys key (moment_of f) f at) (is_key key f there.1))
    (λ f h.
    let kept = Among-filter (λ (e : Facts). bytes_eq key e.key) (entries_of keys) f h in
    let at = captures_at keys f.key (moment_of f) f (held_at_from_entries keys are f kept.0) in
    let same : Some at.0 ≡ Some captures = sym at.1 ∙ ap (get (slice_cmp nat_cmp) keys) (sym (key_is key f kept.1)) ∙ sym is in
    let captures_same : at.0 ≡ captures = cc in
    subst (λ c. Among (shown c) f) captures_same (shown_from_held at.0 (moment_of f) f at.2))

-- ---- the nearest

pub until_date : (key : List ℕ) (captures : Captures) (time : ℕ) (b : Facts) → AreOfKey key captures → IsLastUntil captures time b → b.date ≤ time
until_date key captures time b of last =
    let date : b.date ≡ last.place.0 = ap (λ (m : Moment). m.0) (of.each last.place b last.there).placed in
    omega (arith, date, last.within)

pub after_date : (key : List ℕ) (captures : Captures) (time : ℕ) (a : Facts) → AreOfKey key captures → IsFirstAfter captures time a → time < a.date
after_date key captures time a of next =
    let is = of.each next.place a next.there in
    let date : a.date ≡ next.place.0 = ap (λ (m : Moment). m.0) is.placed in
    let number : a.number ≡ next.place.1 = ap (λ (m : Moment). m.1) is.placed in
    let after : time < next.place.0 = next.within (omega (arith, number, is.fits)) in
    omega arith

nothing_some : {X : Type 0} (found : Option X) → found ≡ None → IsSome found → ⊥
nothing_some None none some = cc
nothing_some (Some x) none some = cc

module _ (keys : Keys) (key : List ℕ) (captures : Captures) (time : ℕ) (are : AreKeys keys) (found : Some captures ≡ get (slice_cmp nat_cmp) keys key) where
  pub only_after : (a : Facts) → HasNoneUntil captures time → IsFirstAfter captures time a → IsNearest (entries_of keys) key time a
  only_after a none next = nearest-after keys key captures time a are (sym found) next (λ other fits until some. absurd (nothing_some (held captures other) (none other fits until) some))

  pub both_after : (b a : Facts) → IsLastUntil captures time b → IsFirstAfter captures time a → a.date - time < time - b.date → IsNearest (entries_of keys) key time a
  both_after b a last next nearer =
      let of = are.each key captures (sym found) in
      let date : b.date ≡ last.place.0 = ap (λ (m : Moment). m.0) (of.each last.place b last.there).placed in
      nearest-after keys key captures time a are (sym found) next (λ other fits until some.
      let least : other.0 ≤ last.place.0 = not_earlier last.place other (last.last other fits until some) in
      omega (arith, nearer, date, least))

  pub only_before : (b a : Facts) → IsLastUntil captures time b → HasNoneAfter captures time → IsFirstFrom captures b.date a → IsNearest (entries_of keys) key time a
  only_before b a last none first = nearest-before keys key captures time b a are (sym found) last first (λ other after some. absurd (nothing_some (held captures other) (none other after) some))

  pub both_before : (b n a : Facts) → IsLastUntil captures time b → IsFirstAfter captures time n → time - b.date ≤ n.date - time → IsFirstFrom captures b.date a → IsNearest (entries_of keys) key time a
  both_before b n a last next nearer first =
      let of = are.each key captures (sym found) in
      let date : n.date ≡ next.place.0 = ap (λ (m : Moment). m.0) (of.each next.place n next.there).placed in
      nearest-before keys key captures time b a are (sym found) last first (λ other after some.
      let least : next.place.0 ≤ other.0 = not_earlier other next.place (next.first other after some) in
      omega (arith, nearer, date, least))

  pub some_from : (b : Facts) → IsLastUntil captures time b → HasNoneFrom captures b.date → ⊥
  some_from b last none =
      let of = are.each key captures (sym found) in
      let date : b.date ≡ last.place.0 = ap (λ (m : Moment). m.0) (of.each last.place b last.there).placed in
      let nothing = none last.place (omega arith) in
      cc (nothing, last.there)

-- ---- one more, and one fewer

apart_from : (entries : List Facts) (e : Facts) → with_number e.number entries ≡ None → (f : Facts) → Among entries f → e.number ≢ f.number
apart_from entries e absent f h same = with_number-none e.number entries absent f h (sym same)

pub maps_put : (old new : Keys) (numbers numbers₂ : BTreeMap ℕ Shared) (s : Shared) (e : Facts) → entry_of s ≡ e → AreMaps old numbers → with_number e.number (entries_of old) ≡ None → AreKeys new → Puts old new e → Updates nat_cmp numbers numbers₂ e.number (Some s) → btree_map_len numbers₂ ≡ suc (btree_map_len numbers)
    → AreMaps new numbers₂ × (entries_of new ≡ with_entry e (entries_of old))
maps_put old new numbers numbers₂ s e value are absent keys puts updates count =
    let list = entries_put old new e are.of_keys keys puts (apart_from (entries_of old) e absent) in (
      record {
        of_keys = keys;
        of_numbers = subst (λ es. AreNumbers es numbers₂) (sym list) (AreNumbers-put (entries_of old) numbers numbers₂ s e value are.of_numbers absent updates count);
      },
      list,
    )

pub maps_undone : (old new : Keys) (numbers numbers₂ numbers₃ : BTreeMap ℕ Shared) (n : ℕ) (s : Shared) → AreMaps old numbers → with_number n (entries_of old) ≡ None → AreKeys new → SameKeys old new → Updates nat_cmp numbers numbers₂ n (Some s) → Updates nat_cmp numbers₂ numbers₃ n None → btree_map_len numbers₃ ≡ btree_map_len numbers
    → AreMaps new numbers₃ × (entries_of new ≡ entries_of old)
maps_undone old new numbers numbers₂ numbers₃ n s are absent keys same puts takes count =
    let list = entries_same old new are.of_keys keys same in (
      record {
        of_keys = keys;
        of_numbers = subst (λ es. AreNumbers es numbers₃) (sym list) (AreNumbers-undone (entries_of old) numbers numbers₂ numbers₃ n s are.of_numbers absent puts takes count);
      },
      list,
    )

one_more : (entries : List Facts) (numbers numbers₂ : BTreeMap ℕ Shared) (n : ℕ) (was : Option Shared) → AreNumbers entries numbers → with_number n entries ≡ None → was ≡ get nat_cmp numbers n → btree_map_len numbers₂ ≡ btree_map_len numbers + (if is_some was then 0 else 1) → btree_map_len numbers₂ ≡ suc (btree_map_len numbers)
one_more entries numbers numbers₂ n None are absent is count = omega (arith, count)
one_more entries numbers numbers₂ n (Some s) are absent is count =
    let at : numbered numbers n ≡ Some (entry_of s) = ap (option_map entry_of) (sym is) in
    let none = numbered-is entries numbers n are in
    cc (at, none, absent)

one_fewer : (numbers₂ numbers₃ : BTreeMap ℕ Shared) (n : ℕ) (s : Shared) (was : Option Shared) → get nat_cmp numbers₂ n ≡ Some s → was ≡ get nat_cmp numbers₂ n → btree_map_len numbers₃ + (if is_some was then 1 else 0) ≡ btree_map_len numbers₂ → suc (btree_map_len numbers₃) ≡ btree_map_len numbers₂
one_fewer numbers₂ numbers₃ n s None found is count = cc
one_fewer numbers₂ numbers₃ n s (Some t) found is count = omega (arith, count)

on_ok : {X E P : Type 0} (r : Result X E) → is_err r ≡ false → OnOk r P → P
on_ok (Ok x) e p = p
on_ok (Err x) e p = cc

on_error : {X E P : Type 0} (r : Result X E) → is_err r ≡ true → OnErr r P → P
on_error (Ok x) e p = cc
on_error (Err x) e p = p

-- both maps have one more
pub added : {X E : Type 0} (old new : Keys) (numbers numbers₂ : BTreeMap ℕ Shared) (s t : Shared) (e : Facts) (n : ℕ) (was : Option Shared) (entries : List Facts) (put : Result X E)
    → entry_of s ≡ e → entry_of t ≡ e → n ≡ e.number → AreMaps old numbers → entries_of old ≡ entries → with_number e.number entries ≡ None → AreKeys new → is_err put ≡ false → OnOk put (Puts old new (entry_of t))
    → was ≡ get nat_cmp numbers n → Updates nat_cmp numbers numbers₂ n (Some s) → btree_map_len numbers₂ ≡ btree_map_len numbers + (if is_some was then 0 else 1)
    → AreMaps new numbers₂ × (entries_of new ≡ with_entry e entries)
added old new numbers numbers₂ s t e n was entries put value value₂ number are view absent keys ok puts is updates count =
    let none : with_number e.number (entries_of old) ≡ None = ap (with_number e.number) view ∙ absent in
    let both = maps_put old new numbers numbers₂ s e value are none keys (subst (Puts old new) value₂ (on_ok put ok puts)) (subst (λ m. Updates nat_cmp numbers numbers₂ m (Some s)) number updates)
    (one_more (entries_of old) numbers numbers₂ e.number was are.of_numbers none (is ∙ ap (get nat_cmp numbers) number) count) in
    (both.0, both.1 ∙ ap (with_entry e) view)

-- what was put in one map is taken again
pub undone : {X E : Type 0} (old new : Keys) (numbers numbers₂ numbers₃ : BTreeMap ℕ Shared) (n : ℕ) (s : Shared) (was had : Option Shared) (entries : List Facts) (put : Result X E)
    → AreMaps old numbers → entries_of old ≡ entries → with_number n entries ≡ None → AreKeys new → is_err put ≡ true → OnErr put (SameKeys old new)
    → was ≡ get nat_cmp numbers n → Updates nat_cmp numbers numbers₂ n (Some s) → btree_map_len numbers₂ ≡ btree_map_len numbers + (if is_some was then 0 else 1)
    → had ≡ get nat_cmp numbers₂ n → Updates nat_cmp numbers₂ numbers₃ n None → btree_map_len numbers₃ + (if is_some had then 1 else 0) ≡ btree_map_len numbers₂
    → AreMaps new numbers₃ × (entries_of new ≡ entries)
undone old new numbers numbers₂ numbers₃ n s was had entries put are view absent keys err same is updates count is₂ takes count₂ =
    let none : with_number n (entries_of old) ≡ None = ap (with_number n) view ∙ absent in
    let more = one_more (entries_of old) numbers numbers₂ n was are.of_numbers none is count in
    let fewer = one_fewer numbers₂ numbers₃ n s had updates.1 is₂ count₂ in
    let both = maps_undone old new numbers numbers₂ numbers₃ n s are none keys (on_error put err same) updates takes (omega (arith, more, fewer)) in
    (both.0, both.1 ∙ view)

pub maps_taken : (old new : Keys) (numbers numbers₂ : BTreeMap ℕ Shared) (n : ℕ) (s : Shared) (e : Facts) → entry_of s ≡ e → AreMaps old numbers → Some s ≡ get nat_cmp numbers n → AreKeys new → Takes old new e.key (moment_of e) → Updates nat_cmp numbers numbers₂ n None → suc (btree_map_len numbers₂) ≡ btree_map_len numbers
    → AreMaps new numbers₂ × (entries_of new ≡ without n (entries_of old))
maps_taken old new numbers numbers₂ n s e value are found keys takes updates count =
    let at : numbered numbers n ≡ Some e = ap (option_map entry_of) (sym found) ∙ ap Some value in
    let is = are.of_numbers.shown n e at in
    let among = among_from_contains (entries_of old) e is.0 in
    let only = λ (f : Facts) (h : Among (entries_of old) f) (same : f.number ≡ e.number). alone (entries_of old) numbers are.of_numbers e f among h same in
    let list = entries_taken old new e are.of_keys keys takes only in
    let fewer = AreNumbers-take (entries_of old) numbers numbers₂ e (sorted_entries old are.of_keys) are.of_numbers among (subst (λ m. Updates nat_cmp numbers numbers₂ m None) (sym is.1) updates) count in
    (record { of_keys = keys; of_numbers = subst (λ es. AreNumbers es numbers₂) (sym list) fewer }, list ∙ ap (λ m. without m (entries_of old)) is.1)

-- both maps have one fewer
pub taken : (old new : Keys) (numbers numbers₂ : BTreeMap ℕ Shared) (n : ℕ) (s : Shared) (e : Facts) (key : List ℕ) (when : Moment) (entries : List Facts)
    → entry_of s ≡ e → key ≡ e.key → when ≡ moment_of e → AreMaps old numbers → entries_of old ≡ entries → Some s ≡ get nat_cmp numbers n → AreKeys new → Takes old new key when
    → Updates nat_cmp numbers numbers₂ n None → btree_map_len numbers₂ + 1 ≡ btree_map_len numbers
    → AreMaps new numbers₂ × (entries_of new ≡ without n entries)
taken old new numbers numbers₂ n s e key when entries value keyed placed are view found keys takes updates count =
    let takes₂ : Takes old new e.key (moment_of e) = subst (λ m. Takes old new e.key m) placed (subst (λ k. Takes old new k when) keyed takes) in
    let both = maps_taken old new numbers numbers₂ n s e value are found keys takes₂ updates (omega (arith, count)) in
    (both.0, both.1 ∙ ap (without n) view)

-- nothing is taken where there is no such number
pub taken_nothing : (keys : Keys) (numbers : BTreeMap ℕ Shared) (n : ℕ) → AreMaps keys numbers → None ≡ get nat_cmp numbers n → entries_of keys ≡ without n (entries_of keys)
taken_nothing keys numbers n are absent =
    let none : with_number n (entries_of keys) ≡ None = sym (numbered-is (entries_of keys) numbers n are.of_numbers) ∙ ap (option_map entry_of) (sym absent) in
    sym (without-absent n (entries_of keys) (λ f h same. with_number-none n (entries_of keys) none f h same))
