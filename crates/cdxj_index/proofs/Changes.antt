-- The entries after one was put in its place, and after one was taken out.
use Rattle.std.proofs.Common.{Result, Ok, Err, ◌≡◌, ◌≢◌, ℕ, ◌^◌, ◌<◌, Bool, true, false, ◌&&◌, List, [], ◌⊎◌, inl, inr, cond, Option, None, Some, refl, sym, ap, ◌∙◌, subst}
use Rattle.std.specs.Prelude.{option_map, option_and_then, OnErr}
use Rattle.std.specs.declared.cmp.Ordering.{Ordering}
use Rattle.std.specs.declared.cmp.Ordering.TheVariants.{Less, Equal, Greater}
use Rattle.std.specs.BTreeMap.{BTreeMap, IsOrdered, Updates, get, is_at}
use Rattle.std.specs.Global.{Box}
use Rattle.std.specs.Cmp.Lexicographic.{slice_cmp}
use Rattle.std.specs.List.Sorted.{IsStrictlySortedBy}
use Rattle.std.specs.Map.{keys_of, lookup}
use Rattle.std.specs.Ordering.{nat_cmp, is_eq, ordering_reverse}
use Rattle.std.proofs.lemmas.Bool.{and_parts}
use Rattle.std.proofs.lemmas.Cmp.{nat_list_cmp_total, tied_itself}
use Rattle.index_entry.specs.Facts.{Facts}
use Rattle.cdxj_index.specs.declared.entry_map.captures.Captures.TheVariants.{One, Many}
use Rattle.cdxj_index.specs.Maps.{AreKeys, AreOfKey, Captures, Changes, HoldsOnly, HoldsSame, IsHeld, IsInOrder, Keys, Puts, SameKeys, Shared, Takes, entries_of, entry_of, held, held_at, is_place}
use Rattle.index_entry.specs.Order.{Moment, moment_of, moment_cmp, order, with_entry, without}
use Rattle.index_entry.proofs.Orders.{both_equal, equal_from_is_eq, key_tied, moment_tied, moment_total, order_total}
use Rattle.index_entry.proofs.Members.{Among, same_from_members, Sorted-filter}
use Rattle.index_entry.proofs.Entries.{Among-with_entry, Among-with_entry_back, Among-without, Among-without_back, InOrder-with_entry}
use Rattle.cdxj_index.proofs.Held.{held_at_from_entries, entries_from_held_at, sorted_entries}

-- ---- places

place_itself : (key : List ℕ) (moment : Moment) → is_place key moment key moment ≡ true
place_itself key moment =
    ap (λ o. is_eq o && is_eq (moment_cmp moment moment)) (tied_itself nat_list_cmp_total key) ∙ ap is_eq (tied_itself moment_total moment)

place_same : (key : List ℕ) (moment : Moment) (other : List ℕ) (when : Moment) → is_place key moment other when ≡ true → (key ≡ other) × (moment ≡ when)
place_same key moment other when is =
    let both = and_parts (is_eq (slice_cmp nat_cmp key other)) (is_eq (moment_cmp moment when)) is in
    (key_tied key other (equal_from_is_eq (slice_cmp nat_cmp key other) both.0), moment_tied moment when (equal_from_is_eq (moment_cmp moment when) both.1))

-- entries of one place have one number
same_number : (e f : Facts) → is_place e.key (moment_of e) f.key (moment_of f) ≡ true → e.number ≡ f.number
same_number e f is = ap (λ m. m.1) (place_same e.key (moment_of e) f.key (moment_of f) is).1

-- ---- the lists

same_held : (old new : Keys) → AreKeys old → SameKeys old new → (f : Facts) → Among (entries_of old) f → Among (entries_of new) f
same_held old new are same f h = entries_from_held_at new f.key (moment_of f) f (same f.key (moment_of f) ∙ held_at_from_entries old are f h)

pub entries_same : (old new : Keys) → AreKeys old → AreKeys new → SameKeys old new → entries_of new ≡ entries_of old
entries_same old new are are₂ same =
    same_from_members order order_total (entries_of new) (entries_of old) (sorted_entries new are₂) (sorted_entries old are)
    (same_held new old are₂ (λ key moment. sym (same key moment))) (same_held old new are same)

put_members : (b : Bool) (e f : Facts) (before : Option Facts) → is_place e.key (moment_of e) f.key (moment_of f) ≡ b → cond b (Some e) before ≡ Some f → (e ≡ f) ⊎ (before ≡ Some f)
put_members true e f before is there = inl cc
put_members false e f before is there = inr there

put_kept : (b : Bool) (e f : Facts) (before : Option Facts) → is_place e.key (moment_of e) f.key (moment_of f) ≡ b → e.number ≢ f.number → before ≡ Some f → cond b (Some e) before ≡ Some f
put_kept true e f before is apart there = absurd (apart (same_number e f is))
put_kept false e f before is apart there = there

not_tied : (e f : Facts) → e.number ≢ f.number → order f e ≢ Equal
not_tied e f apart tied =
    let both = both_equal (slice_cmp nat_cmp f.key e.key) (moment_cmp (moment_of f) (moment_of e)) tied in
    apart (sym (ap (λ m. m.1) (moment_tied (moment_of f) (moment_of e) both.1)))

pub entries_put : (old new : Keys) (e : Facts) → AreKeys old → AreKeys new → Puts old new e → ((f : Facts) → Among (entries_of old) f → e.number ≢ f.number) → entries_of new ≡ with_entry e (entries_of old)
entries_put old new e are are₂ puts apart =
    same_from_members order order_total (entries_of new) (with_entry e (entries_of old)) (sorted_entries new are₂)
    (InOrder-with_entry e (entries_of old) (sorted_entries old are) (λ f h. not_tied e f (apart f h)))
    (λ f h.
    let there = sym (puts f.key (moment_of f)) ∙ held_at_from_entries new are₂ f h in
    let which = put_members (is_place e.key (moment_of e) f.key (moment_of f)) e f (held_at old f.key (moment_of f)) refl there in
    Among-with_entry_back e (entries_of old) f (elim which [ inl is ↦ inl is | inr before ↦ inr (entries_from_held_at old f.key (moment_of f) f before) ]))
    (λ f h.
    elim (Among-with_entry e (entries_of old) f h) [
      | inl is ↦ subst (Among (entries_of new)) is (entries_from_held_at new e.key (moment_of e) e (puts e.key (moment_of e) ∙ ap (λ b. cond b (Some e) (held_at old e.key (moment_of e))) (place_itself e.key (moment_of e))))
      | inr among ↦ entries_from_held_at new f.key (moment_of f) f (puts f.key (moment_of f) ∙ put_kept (is_place e.key (moment_of e) f.key (moment_of f)) e f (held_at old f.key (moment_of f)) refl (apart f among) (held_at_from_entries old are f among))
    ])

taken_members : (b : Bool) (f : Facts) (before : Option Facts) → cond b None before ≡ Some f → (b ≡ false) × (before ≡ Some f)
taken_members true f before there = cc
taken_members false f before there = (refl, there)

taken_kept : (b : Bool) (f : Facts) (before : Option Facts) → b ≢ true → before ≡ Some f → cond b None before ≡ Some f
taken_kept true f before apart there = absurd (apart refl)
taken_kept false f before apart there = there

pub entries_taken : (old new : Keys) (e : Facts) → AreKeys old → AreKeys new → Takes old new e.key (moment_of e) → ((f : Facts) → Among (entries_of old) f → f.number ≡ e.number → f ≡ e) → entries_of new ≡ without e.number (entries_of old)
entries_taken old new e are are₂ takes alone =
    same_from_members order order_total (entries_of new) (without e.number (entries_of old)) (sorted_entries new are₂)
    (Sorted-filter order order_total _ (entries_of old) (sorted_entries old are))
    (λ f h.
    let there = sym (takes f.key (moment_of f)) ∙ held_at_from_entries new are₂ f h in
    let before = taken_members (is_place e.key (moment_of e) f.key (moment_of f)) f (held_at old f.key (moment_of f)) there in
    let among = entries_from_held_at old f.key (moment_of f) f before.1 in
    Among-without_back e.number (entries_of old) f among (λ same.
    let is = alone f among same in
    let place : is_place e.key (moment_of e) f.key (moment_of f) ≡ true = subst (λ g. is_place e.key (moment_of e) g.key (moment_of g) ≡ true) (sym is) (place_itself e.key (moment_of e)) in
    cc (place, before.0)))
    (λ f h.
    let kept = Among-without e.number (entries_of old) f h in
    entries_from_held_at new f.key (moment_of f) f (takes f.key (moment_of f) ∙ taken_kept (is_place e.key (moment_of e) f.key (moment_of f)) f (held_at old f.key (moment_of f)) (λ place. kept.1 (sym (same_number e f place))) (held_at_from_entries old are f kept.0)))

-- ---- the maps

-- what is held at a key after a value was written there
at_key : (b c : Bool) (found : Option Captures) (w : Captures) (moment : Moment) → b ≡ c → option_and_then (λ captures. held captures moment) (cond b (Some w) found) ≡ cond c (held w moment) (option_and_then (λ captures. held captures moment) found)
at_key true true found w moment same = refl
at_key true false found w moment same = cc
at_key false true found w moment same = cc
at_key false false found w moment same = refl

held_written : (old new : Keys) (key : List ℕ) (w : Captures) → Updates (slice_cmp nat_cmp) old new key (Some w) → (other : List ℕ) (moment : Moment) → held_at new other moment ≡ cond (is_eq (slice_cmp nat_cmp key other)) (held w moment) (held_at old other moment)
held_written old new key w updates other moment =
    ap (option_and_then (λ captures. held captures moment)) (updates.0 other) ∙ at_key (is_eq (slice_cmp nat_cmp key other)) (is_eq (slice_cmp nat_cmp key other)) (get (slice_cmp nat_cmp) old other) w moment refl

-- what is held of a key with several captures after one of them was changed
pub many_changed : (old new : Box (BTreeMap Moment Shared)) (moment : Moment) (s : Option Shared) → Updates moment_cmp old.value new.value moment s → Changes (Many old) (Many new) moment (option_map entry_of s)
many_changed old new moment s updates when = ap (option_map entry_of) (updates.0 when) ∙ inside (is_eq (moment_cmp moment when)) (get moment_cmp old.value when)
  where
    inside : (b : Bool) (found : Option Shared) → option_map entry_of (cond b s found) ≡ cond b (option_map entry_of s) (option_map entry_of found)
    inside true found = refl
    inside false found = refl

-- ---- a key with one capture

not_turned : (o : Ordering) → is_eq (ordering_reverse o) ≡ is_eq o
not_turned Less = refl
not_turned Equal = refl
not_turned Greater = refl

tied_turned : (m n : Moment) → is_eq (moment_cmp m n) ≡ is_eq (moment_cmp n m)
tied_turned m n = ap is_eq (moment_total.antisymm m n) ∙ not_turned (moment_cmp n m)

-- what is held of it
pub held_of_one : (s : Shared) (when : Moment) → held (One s) when ≡ cond (is_eq (moment_cmp (moment_of (entry_of s)) when)) (Some (entry_of s)) None
held_of_one s when = inside (is_eq (moment_cmp when (moment_of (entry_of s)))) (is_eq (moment_cmp (moment_of (entry_of s)) when)) (tied_turned when (moment_of (entry_of s)))
  where
    inside : (b c : Bool) → b ≡ c → option_map entry_of (cond b (Some s) None) ≡ cond c (Some (entry_of s)) None
    inside true true same = refl
    inside true false same = cc
    inside false true same = cc
    inside false false same = refl

-- what is held after another one was put beside it
pub both_held : (none one both : BTreeMap Moment Shared) (box : Box (BTreeMap Moment Shared)) (first shared entry : Shared) (at moment : Moment) → none.entries ≡ [] → entry_of shared ≡ entry_of first → at ≡ moment_of (entry_of first)
    → Updates moment_cmp none one at (Some shared) → Updates moment_cmp one both moment (Some entry) → box.value ≡ both → Changes (One first) (Many box) moment (Some (entry_of entry))
both_held none one both box first shared entry at moment empty same place put put₂ is when =
    ap (λ places. option_map entry_of (get moment_cmp places when)) is
    ∙ ap (option_map entry_of)
    (put₂.0 when ∙ ap (cond (is_eq (moment_cmp moment when)) (Some entry)) (put.0 when ∙ ap (λ es. cond (is_eq (moment_cmp at when)) (Some shared) (lookup (is_at (moment_cmp when)) es)) empty))
    ∙ inside (is_eq (moment_cmp moment when)) (is_eq (moment_cmp at when))
    ∙ ap (cond (is_eq (moment_cmp moment when)) (Some (entry_of entry)))
    (ap (λ e. cond (is_eq (moment_cmp at when)) (Some e) None) same ∙ ap (λ m. cond (is_eq (moment_cmp m when)) (Some (entry_of first)) None) place ∙ sym (held_of_one first when))
  where
    inside : (b c : Bool) → option_map entry_of (cond b (Some entry) (cond c (Some shared) None)) ≡ cond b (Some (entry_of entry)) (cond c (Some (entry_of shared)) None)
    inside true c = refl
    inside false true = refl
    inside false false = refl

pub one_in_order : (s : Shared) → IsInOrder (One s)
unfolding IsStrictlySortedBy
one_in_order s = (tt, tt)

-- the place of a key and a moment, test by test
by_place : (b c : Bool) (changed there before elsewhere : Option Facts) → (b ≡ true → there ≡ cond c changed before) → (b ≡ true → before ≡ elsewhere) → cond b there elsewhere ≡ cond (b && c) changed elsewhere
by_place true c changed there before elsewhere is same = is refl ∙ ap (cond c changed) (same refl)
by_place false c changed there before elsewhere is same = refl

-- after a change of the captures of a key
pub places_written : (old new : Keys) (key : List ℕ) (before after : Captures) (moment : Moment) (w : Option Facts) → ((when : Moment) → held before when ≡ held_at old key when) → Updates (slice_cmp nat_cmp) old new key (Some after) → Changes before after moment w
    → (other : List ℕ) (when : Moment) → held_at new other when ≡ cond (is_place key moment other when) w (held_at old other when)
places_written old new key before after moment w was updates changes other when =
    held_written old new key after updates other when
    ∙ by_place (is_eq (slice_cmp nat_cmp key other)) (is_eq (moment_cmp moment when)) w (held after when) (held before when) (held_at old other when)
    (λ here. changes when)
    (λ here. subst (λ k. held before when ≡ held_at old k when) (key_tied key other (equal_from_is_eq (slice_cmp nat_cmp key other) here)) (was when))

-- the captures of a key that is there
pub was_there : (keys : Keys) (key : List ℕ) (captures : Captures) → get (slice_cmp nat_cmp) keys key ≡ Some captures → (when : Moment) → held captures when ≡ held_at keys key when
was_there keys key captures found when = sym (ap (option_and_then (λ c. held c when)) found)

pub AreOfKey-put : (key : List ℕ) (before after : Captures) (moment : Moment) (s : Shared) → AreOfKey key before → IsInOrder after → Changes before after moment (Some (entry_of s)) → IsHeld key moment (entry_of s) → AreOfKey key after
AreOfKey-put key before after moment s are ordered changes is = record {
  ordered = ordered;
  each = λ when f there. which (is_eq (moment_cmp moment when)) when f refl (sym (changes when) ∙ there);
}
  where
    which : (b : Bool) (when : Moment) (f : Facts) → is_eq (moment_cmp moment when) ≡ b → cond b (Some (entry_of s)) (held before when) ≡ Some f → IsHeld key when f
    which true when f here there =
        let value : entry_of s ≡ f = cc in
        let same = moment_tied moment when (equal_from_is_eq (moment_cmp moment when) here) in
        subst (λ m. IsHeld key m f) same (subst (IsHeld key moment) value is)
    which false when f here there = are.each when f there

pub AreOfKey-take : (key : List ℕ) (before after : Captures) (moment : Moment) → AreOfKey key before → IsInOrder after → Changes before after moment None → AreOfKey key after
AreOfKey-take key before after moment are ordered changes = record {
  ordered = ordered;
  each = λ when f there. are.each when f (taken_members (is_eq (moment_cmp moment when)) f (held before when) (sym (changes when) ∙ there)).1;
}

pub AreOfKey-one : (key : List ℕ) (s : Shared) → IsHeld key (moment_of (entry_of s)) (entry_of s) → AreOfKey key (One s)
AreOfKey-one key s is = record {
  ordered = one_in_order s;
  each = λ when f there. which (is_eq (moment_cmp (moment_of (entry_of s)) when)) when f refl (sym (held_of_one s when) ∙ there);
}
  where
    which : (b : Bool) (when : Moment) (f : Facts) → is_eq (moment_cmp (moment_of (entry_of s)) when) ≡ b → cond b (Some (entry_of s)) None ≡ Some f → IsHeld key when f
    which true when f here there =
        let value : entry_of s ≡ f = cc in
        let same = moment_tied (moment_of (entry_of s)) when (equal_from_is_eq (moment_cmp (moment_of (entry_of s)) when) here) in
        subst (λ m. IsHeld key m f) same (subst (IsHeld key (moment_of (entry_of s))) value is)
    which false when f here there = cc

pub AreKeys-written : (old new : Keys) (key : List ℕ) (after : Option Captures) → AreKeys old → IsOrdered (slice_cmp nat_cmp) new → Updates (slice_cmp nat_cmp) old new key after → ((captures : Captures) → after ≡ Some captures → AreOfKey key captures) → AreKeys new
AreKeys-written old new key after are ordered updates is = record {
  ordered = ordered;
  each = λ other captures found. which (is_eq (slice_cmp nat_cmp key other)) other captures refl (sym (updates.0 other) ∙ found);
}
  where
    which : (b : Bool) (other : List ℕ) (captures : Captures) → is_eq (slice_cmp nat_cmp key other) ≡ b → cond b after (get (slice_cmp nat_cmp) old other) ≡ Some captures → AreOfKey other captures
    which true other captures here found =
        subst (λ k. AreOfKey k captures) (key_tied key other (equal_from_is_eq (slice_cmp nat_cmp key other) here)) (is captures found)
    which false other captures here found = are.each other captures found

-- ---- the calls of the map

-- an entry that was put among the captures of its key
pub put_there : (old new : Keys) (before after : Captures) (s : Shared) (e : Facts) → e ≡ entry_of s → Some before ≡ get (slice_cmp nat_cmp) old e.key → Updates (slice_cmp nat_cmp) old new e.key (Some after) → Changes before after (moment_of e) (Some (entry_of s)) → Puts old new (entry_of s)
put_there old new before after s e is found updates changes =
    let puts = places_written old new e.key before after (moment_of e) (Some (entry_of s)) (was_there old e.key before (sym found)) updates changes in
    subst (λ f. (key : List ℕ) (moment : Moment) → held_at new key moment ≡ cond (is_place f.key (moment_of f) key moment) (Some (entry_of s)) (held_at old key moment)) is puts

pub keys_there : (old new : Keys) (before after : Captures) (s : Shared) (e : Facts) → e ≡ entry_of s → e.number < 2 ^ 32 → AreKeys old → Some before ≡ get (slice_cmp nat_cmp) old e.key → IsOrdered (slice_cmp nat_cmp) new → Updates (slice_cmp nat_cmp) old new e.key (Some after)
    → IsInOrder after → Changes before after (moment_of e) (Some (entry_of s)) → AreKeys new
keys_there old new before after s e is fits are found ordered updates inner changes =
    let held : IsHeld e.key (moment_of e) (entry_of s) = subst (IsHeld e.key (moment_of e)) is (record { keyed = refl; placed = refl; fits = fits }) in
    let kept = AreOfKey-put e.key before after (moment_of e) s (are.each e.key before (sym found)) inner changes held in
    AreKeys-written old new e.key (Some after) are ordered updates (λ captures same. subst (AreOfKey e.key) (cc) kept)

-- an entry that is the first of its key
pub put_first : (old new : Keys) (s : Shared) (e : Facts) → e ≡ entry_of s → get (slice_cmp nat_cmp) old e.key ≡ None → Updates (slice_cmp nat_cmp) old new e.key (Some (One s)) → Puts old new (entry_of s)
put_first old new s e is absent updates =
    subst (λ f. (key : List ℕ) (moment : Moment) → held_at new key moment ≡ cond (is_place f.key (moment_of f) key moment) (Some (entry_of s)) (held_at old key moment)) is (λ other when.
    held_written old new e.key (One s) updates other when
    ∙ by_place (is_eq (slice_cmp nat_cmp e.key other)) (is_eq (moment_cmp (moment_of e) when)) (Some (entry_of s)) (held (One s) when) None (held_at old other when)
    (λ here. held_of_one s when ∙ ap (λ (f : Facts). cond (is_eq (moment_cmp (moment_of f) when)) (Some (entry_of s)) None) (sym is))
    (λ here.
    let nowhere : held_at old e.key when ≡ None = ap (option_and_then (λ captures. held captures when)) absent in
    sym nowhere ∙ ap (λ k. held_at old k when) (key_tied e.key other (equal_from_is_eq (slice_cmp nat_cmp e.key other) here))))

pub keys_first : (old new : Keys) (s : Shared) (e : Facts) → e ≡ entry_of s → e.number < 2 ^ 32 → AreKeys old → IsOrdered (slice_cmp nat_cmp) new → Updates (slice_cmp nat_cmp) old new e.key (Some (One s)) → AreKeys new
keys_first old new s e is fits are ordered updates =
    let held : IsHeld e.key (moment_of e) (entry_of s) = subst (IsHeld e.key (moment_of e)) is (record { keyed = refl; placed = refl; fits = fits }) in
    let kept : AreOfKey e.key (One s) = AreOfKey-one e.key s (subst (λ (f : Facts). IsHeld e.key (moment_of f) (entry_of s)) is held) in
    AreKeys-written old new e.key (Some (One s)) are ordered updates (λ captures same. subst (AreOfKey e.key) (cc) kept)

-- captures that hold what they held
pub same_there : (old new : Keys) (before after : Captures) (key : List ℕ) → Some before ≡ get (slice_cmp nat_cmp) old key → Updates (slice_cmp nat_cmp) old new key (Some after) → HoldsSame before after → SameKeys old new
same_there old new before after key found updates same other when =
    held_written old new key after updates other when ∙ which (is_eq (slice_cmp nat_cmp key other)) refl
  where
    which : (b : Bool) → is_eq (slice_cmp nat_cmp key other) ≡ b → cond b (held after when) (held_at old other when) ≡ held_at old other when
    which true here = same when ∙ was_there old key before (sym found) when ∙ ap (λ k. held_at old k when) (key_tied key other (equal_from_is_eq (slice_cmp nat_cmp key other) here))
    which false here = refl

pub keys_same : (old new : Keys) (before after : Captures) (key : List ℕ) → AreKeys old → Some before ≡ get (slice_cmp nat_cmp) old key → IsOrdered (slice_cmp nat_cmp) new → Updates (slice_cmp nat_cmp) old new key (Some after) → IsInOrder after → HoldsSame before after → AreKeys new
keys_same old new before after key are found ordered updates inner same =
    let was = are.each key before (sym found) in
    let kept : AreOfKey key after = record { ordered = inner; each = λ when f there. was.each when f (sym (same when) ∙ there) } in
    AreKeys-written old new key (Some after) are ordered updates (λ captures is. subst (AreOfKey key) (cc) kept)

-- an entry that was taken out of the captures of its key
pub taken_there : (old new : Keys) (before after : Captures) (key : List ℕ) (moment : Moment) → Some before ≡ get (slice_cmp nat_cmp) old key → Updates (slice_cmp nat_cmp) old new key (Some after) → Changes before after moment None → Takes old new key moment
taken_there old new before after key moment found updates changes = places_written old new key before after moment None (was_there old key before (sym found)) updates changes

pub keys_taken : (old new : Keys) (before after : Captures) (key : List ℕ) (moment : Moment) → AreKeys old → Some before ≡ get (slice_cmp nat_cmp) old key → IsOrdered (slice_cmp nat_cmp) new → Updates (slice_cmp nat_cmp) old new key (Some after) → IsInOrder after → Changes before after moment None → AreKeys new
keys_taken old new before after key moment are found ordered updates inner changes =
    let kept = AreOfKey-take key before after moment (are.each key before (sym found)) inner changes in
    AreKeys-written old new key (Some after) are ordered updates (λ captures is. subst (AreOfKey key) (cc) kept)

-- a key whose only capture is taken may go
pub dropped_there : (old middle new : Keys) (before after : Captures) (key : List ℕ) (moment : Moment) → Some before ≡ get (slice_cmp nat_cmp) old key → Updates (slice_cmp nat_cmp) old middle key (Some after) → HoldsOnly before moment → Updates (slice_cmp nat_cmp) middle new key None → Takes old new key moment
dropped_there old middle new before after key moment found updates only drops other when =
    ap (option_and_then (λ captures. held captures when)) (drops.0 other ∙ ap (cond (is_eq (slice_cmp nat_cmp key other)) None) (updates.0 other))
    ∙ which (is_eq (slice_cmp nat_cmp key other)) (is_eq (moment_cmp moment when)) refl refl
  where
    which : (b c : Bool) → is_eq (slice_cmp nat_cmp key other) ≡ b → is_eq (moment_cmp moment when) ≡ c → option_and_then (λ captures. held captures when) (cond b None (cond b (Some after) (get (slice_cmp nat_cmp) old other))) ≡ cond (b && c) None (held_at old other when)
    which true true here there = refl
    which true false here there =
        sym (ap (λ k. held_at old k when) (sym (key_tied key other (equal_from_is_eq (slice_cmp nat_cmp key other) here))) ∙ sym (was_there old key before (sym found) when) ∙ only when there)
    which false c here there = refl

pub keys_dropped : (old middle new : Keys) (key : List ℕ) (after : Captures) → AreKeys old → Updates (slice_cmp nat_cmp) old middle key (Some after) → IsOrdered (slice_cmp nat_cmp) new → Updates (slice_cmp nat_cmp) middle new key None → AreKeys new
keys_dropped old middle new key after are updates ordered drops = record {
  ordered = ordered;
  each = λ other captures found. which (is_eq (slice_cmp nat_cmp key other)) other captures (sym (drops.0 other ∙ ap (cond (is_eq (slice_cmp nat_cmp key other)) None) (updates.0 other)) ∙ found);
}
  where
    which : (b : Bool) (other : List ℕ) (captures : Captures) → cond b None (cond b (Some after) (get (slice_cmp nat_cmp) old other)) ≡ Some captures → AreOfKey other captures
    which true other captures found = cc
    which false other captures found = are.each other captures found

-- nothing is held under a key that isn't there
pub taken_nowhere : (keys : Keys) (key : List ℕ) (moment : Moment) → get (slice_cmp nat_cmp) keys key ≡ None → Takes keys keys key moment
taken_nowhere keys key moment absent other when = which (is_place key moment other when) refl
  where
    which : (b : Bool) → is_place key moment other when ≡ b → held_at keys other when ≡ cond b None (held_at keys other when)
    which true here = sym (ap (λ k. held_at keys k when) (place_same key moment other when here).0) ∙ ap (option_and_then (λ captures. held captures when)) absent
    which false here = refl

-- maps with the same entries
pub keys_alike : (old new : Keys) → AreKeys old → new.entries ≡ old.entries → AreKeys new
keys_alike old new are same = record {
  ordered = subst (λ es. IsStrictlySortedBy (slice_cmp nat_cmp) (keys_of es)) (sym same) are.ordered;
  each = λ key captures found. are.each key captures (sym (ap (λ es. lookup (is_at (slice_cmp nat_cmp key)) es) same) ∙ found);
}

pub places_alike : (old new : Keys) → new.entries ≡ old.entries → SameKeys old new
places_alike old new same key moment = ap (λ es. option_and_then (λ captures. held captures moment) (lookup (is_at (slice_cmp nat_cmp key)) es)) same

pub on_err : {T E P : Type 0} (r : Result T E) → P → OnErr r P
on_err (Ok x) p = tt
on_err (Err e) p = p
