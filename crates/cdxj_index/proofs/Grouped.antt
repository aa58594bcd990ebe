-- Groups of one key, as entries that come in order are put behind them.
use Rattle.std.proofs.Common.{◌≡◌, ◌≢◌, ℕ, ◌^◌, ◌<◌, Bool, true, false, cond, List, [], ◌∷◌, ◌++◌, inl, inr, Some, refl, sym, ap, append_assoc, ◌∙◌, subst}
use Rattle.std.specs.Prelude.{Contains, nat_eq}
use Rattle.std.specs.declared.cmp.Ordering.{Ordering}
use Rattle.std.specs.declared.cmp.Ordering.TheVariants.{Less, Equal, Greater}
use Rattle.std.specs.Cmp.Lexicographic.{pointwise, slice_cmp, texts_ties}
use Rattle.std.specs.List.Sorted.{IsStrictlySortedBy}
use Rattle.std.specs.Map.{keys_of}
use Rattle.std.specs.Ordering.{nat_cmp, is_eq, ordering_then}
use Rattle.std.proofs.lemmas.Cmp.{nat_list_cmp_total, tied_itself}
use Rattle.index_entry.specs.Facts.{Facts}
use Rattle.cdxj_index.specs.declared.entry_map.captures.Captures.TheVariants.{One}
use Rattle.cdxj_index.specs.Groups.{AreGroups, Group, IsGroup}
use Rattle.cdxj_index.specs.Maps.{AreOfKey, Captures, Changes, IsHeld, IsInOrder, Shared, entry_of, held, shown, shown_all}
use Rattle.index_entry.specs.Order.{Moment, moment_of, moment_cmp, order}
use Rattle.index_entry.proofs.Orders.{equal_from_is_eq, key_tied, moment_tied, moment_total, order_total}
use Rattle.index_entry.proofs.Members.{Among, Among-append, Among-append_left, Among-append_right, Among-flat_map_back, Among-map_back, Sorted-append, all_among, among_from_contains, contains_from_among, not_below_itself, same_from_members}
use Rattle.cdxj_index.proofs.Held.{held_from_shown, shown_from_held, sorted_shown}
use Rattle.cdxj_index.proofs.Changes.{AreOfKey-put, AreOfKey-one}

-- ---- lists

append_nil : {X : Type 0} (xs : List X) → xs ++ [] ≡ xs
append_nil [] = refl
append_nil (x ∷ xs) = ap (λ l. x ∷ l) (append_nil xs)

not_nil : {X : Type 0} (xs : List X) (x : X) → xs ++ x ∷ [] ≢ []
not_nil [] x is = cc
not_nil (y ∷ xs) x is = cc

some_member : {X : Type 0} (xs : List X) → xs ≢ [] → (x : X) × Among xs x
some_member [] some = absurd (some refl)
some_member (x ∷ xs) some = (x, inl refl)

one_sorted : (f : Facts) → IsStrictlySortedBy order (f ∷ [])
unfolding IsStrictlySortedBy
one_sorted f = (tt, tt)

one_key : (key : List ℕ) → IsStrictlySortedBy (slice_cmp nat_cmp) (key ∷ [])
unfolding IsStrictlySortedBy
one_key key = (tt, tt)

keys_of-append : (groups : List Group) (group : Group) → keys_of (groups ++ group ∷ []) ≡ keys_of groups ++ group.0 ∷ []
keys_of-append [] group = refl
keys_of-append (g ∷ groups) group = ap (λ l. g.0 ∷ l) (keys_of-append groups group)

shown_all-append : (groups : List Group) (group : Group) → shown_all (groups ++ group ∷ []) ≡ shown_all groups ++ shown group.1
shown_all-append [] group = append_nil (shown group.1)
shown_all-append (g ∷ groups) group = ap (λ l. shown g.1 ++ l) (shown_all-append groups group) ∙ sym (append_assoc (shown g.1) (shown_all groups) (shown group.1))

-- ---- one more among the captures of a key

put_which : (b : Bool) (moment : Moment) (m : Moment) (e f : Facts) (captures : Captures) → is_eq (moment_cmp moment m) ≡ b → cond b (Some e) (held captures m) ≡ Some f → Among (shown captures ++ e ∷ []) f
put_which true moment m e f captures is there = Among-append_right (shown captures) (e ∷ []) f (inl cc)
put_which false moment m e f captures is there = Among-append_left (shown captures) (e ∷ []) f (shown_from_held captures m f there)

put_stays : (b : Bool) (e f : Facts) (captures : Captures) → is_eq (moment_cmp (moment_of e) (moment_of f)) ≡ b → moment_cmp (moment_of f) (moment_of e) ≡ Less → held captures (moment_of f) ≡ Some f → cond b (Some e) (held captures (moment_of f)) ≡ Some f
put_stays true e f captures is below there =
    let same = moment_tied (moment_of e) (moment_of f) (equal_from_is_eq (moment_cmp (moment_of e) (moment_of f)) is) in
    absurd (not_below_itself moment_cmp moment_total (moment_of f) (subst (λ m. moment_cmp (moment_of f) m ≡ Less) same below))
put_stays false e f captures is below there = there

moment_below : (o p : Ordering) → o ≡ Equal → ordering_then o p ≡ Less → p ≡ Less
moment_below Less p is below = cc
moment_below Equal p is below = below
moment_below Greater p is below = cc

-- of two entries of one key the first has the earlier moment
below_in_key : (e f : Facts) → f.key ≡ e.key → order f e ≡ Less → moment_cmp (moment_of f) (moment_of e) ≡ Less
below_in_key e f keyed below =
    moment_below (slice_cmp nat_cmp f.key e.key) (moment_cmp (moment_of f) (moment_of e)) (ap (λ k. slice_cmp nat_cmp k e.key) keyed ∙ tied_itself nat_list_cmp_total e.key) below

pub shown-put : (before after : Captures) (s : Shared) (e : Facts) → entry_of s ≡ e → AreOfKey e.key before → AreOfKey e.key after → Changes before after (moment_of e) (Some (entry_of s))
    → ((f : Facts) → Among (shown before) f → order f e ≡ Less) → shown after ≡ shown before ++ e ∷ []
shown-put before after s e value are are₂ changes below =
    same_from_members order order_total (shown after) (shown before ++ e ∷ []) (sorted_shown e.key after are₂)
    (Sorted-append order order_total (shown before) (e ∷ []) (sorted_shown e.key before are) (one_sorted e) (λ f g h h₂. elim h₂ [ inl is ↦ subst (λ d. order f d ≡ Less) is (below f h) | inr none ↦ absurd none ]))
    (λ f h.
    let there = (held_from_shown e.key after are₂ f h).0 in
    put_which (is_eq (moment_cmp (moment_of e) (moment_of f))) (moment_of e) (moment_of f) e f before refl
    (ap (λ v. cond (is_eq (moment_cmp (moment_of e) (moment_of f))) (Some v) (held before (moment_of f))) (sym value) ∙ sym (changes (moment_of f)) ∙ there))
    (λ f h. elim (Among-append (shown before) (e ∷ []) f h) [
      | inl among ↦
          let was = held_from_shown e.key before are f among in
          shown_from_held after (moment_of f) f
          (changes (moment_of f) ∙ ap (λ v. cond (is_eq (moment_cmp (moment_of e) (moment_of f))) (Some v) (held before (moment_of f))) value
          ∙ put_stays (is_eq (moment_cmp (moment_of e) (moment_of f))) e f before refl (below_in_key e f was.1 (below f among)) was.0)
      | inr one ↦ elim one [
        | inl is ↦
            subst (Among (shown after)) is
            (shown_from_held after (moment_of e) e
            (changes (moment_of e) ∙ ap (λ o. cond (is_eq o) (Some (entry_of s)) (held before (moment_of e))) (tied_itself moment_total (moment_of e)) ∙ ap Some value))
        | inr none ↦ absurd none
      ]
    ])

-- ---- one group more

-- what is behind all entries of a group and not of its key is of a later one
key_before : (o p : Ordering) → ordering_then o p ≡ Less → o ≢ Equal → o ≡ Less
key_before Less p below apart = refl
key_before Equal p below apart = absurd (apart refl)
key_before Greater p below apart = cc

below_last : (groups : List Group) (last : Group) (key : List ℕ) → IsStrictlySortedBy (slice_cmp nat_cmp) (keys_of (groups ++ last ∷ [])) → slice_cmp nat_cmp last.0 key ≡ Less
    → (k : List ℕ) → Among (keys_of (groups ++ last ∷ [])) k → slice_cmp nat_cmp k key ≡ Less
unfolding IsStrictlySortedBy
below_last [] last key sorted below k (inl is) = subst (λ l. slice_cmp nat_cmp l key ≡ Less) is below
below_last [] last key sorted below k (inr none) = absurd none
below_last (g ∷ groups) last key sorted below k (inl is) =
    let later = below_last groups last key sorted.1 below last.0 (Among-map_back (λ (e : Group). e.0) (groups ++ last ∷ []) last (Among-append_right groups (last ∷ []) last (inl refl))) in
    subst (λ l. slice_cmp nat_cmp l key ≡ Less) is
    (nat_list_cmp_total.trans g.0 last.0 key
    (all_among (λ l. slice_cmp nat_cmp g.0 l ≡ Less) (keys_of (groups ++ last ∷ [])) sorted.0 last.0 (Among-map_back (λ (e : Group). e.0) (groups ++ last ∷ []) last (Among-append_right groups (last ∷ []) last (inl refl)))) later)
below_last (g ∷ groups) last key sorted below k (inr h) = below_last groups last key sorted.1 below k h

pub AreGroups-push : (groups : List Group) (group : Group) → AreGroups groups → ((k : List ℕ) → Among (keys_of groups) k → slice_cmp nat_cmp k group.0 ≡ Less) → IsGroup group → AreGroups (groups ++ group ∷ [])
AreGroups-push groups group are below is = record {
  ordered = subst (IsStrictlySortedBy (slice_cmp nat_cmp)) (sym (keys_of-append groups group))
      (Sorted-append (slice_cmp nat_cmp) nat_list_cmp_total (keys_of groups) (group.0 ∷ []) are.ordered (one_key group.0) (λ k l h h₂. elim h₂ [ inl same ↦ subst (λ m. slice_cmp nat_cmp k m ≡ Less) same (below k h) | inr none ↦ absurd none ]));
  each = λ g h. elim (Among-append groups (group ∷ []) g (among_from_contains (groups ++ group ∷ []) g h)) [
    | inl among ↦ are.each g (contains_from_among groups g among)
    | inr one ↦ elim one [ inl same ↦ subst IsGroup same is | inr none ↦ absurd none ]
  ];
}

-- the last group is changed
pub AreGroups-last : (groups : List Group) (group other : Group) → AreGroups (groups ++ group ∷ []) → group.0 ≡ other.0 → IsGroup other → AreGroups (groups ++ other ∷ [])
AreGroups-last groups group other are same is = record {
  ordered = subst (IsStrictlySortedBy (slice_cmp nat_cmp)) (keys_of-append groups group ∙ ap (λ k. keys_of groups ++ k ∷ []) same ∙ sym (keys_of-append groups other)) are.ordered;
  each = λ g h. elim (Among-append groups (other ∷ []) g (among_from_contains (groups ++ other ∷ []) g h)) [
    | inl among ↦ are.each g (contains_from_among (groups ++ group ∷ []) g (Among-append_left groups (group ∷ []) g among))
    | inr one ↦ elim one [ inl at ↦ subst IsGroup at is | inr none ↦ absurd none ]
  ];
}

-- a key and its only capture
pub one_group : (key : List ℕ) (s : Shared) → key ≡ (entry_of s).key → (entry_of s).number < 2 ^ 32 → IsGroup (key, One s)
one_group key s keyed fits = record {
  of_key = AreOfKey-one key s (record { keyed = sym keyed; placed = refl; fits = fits });
  some = λ none. cc;
}

-- ---- an entry put behind the groups

pub same_key : (a b key other : List ℕ) → pointwise nat_eq a b ≡ true → a ≡ key → b ≡ other → key ≡ other
same_key a b key other is at at₂ = sym at ∙ key_tied a b (equal_from_is_eq (slice_cmp nat_cmp a b) (sym (texts_ties a b) ∙ is)) ∙ at₂

pub other_key : (a b key other : List ℕ) → pointwise nat_eq a b ≡ false → a ≡ key → b ≡ other → slice_cmp nat_cmp key other ≢ Equal
other_key a b key other is at at₂ tied =
    let same : is_eq (slice_cmp nat_cmp a b) ≡ true = ap is_eq (ap (λ k. slice_cmp nat_cmp k b) at ∙ ap (slice_cmp nat_cmp key) at₂ ∙ tied) in
    cc (texts_ties a b, same, is)

pub last_group : (old rest : List Group) (group : Group) → AreGroups old → old ≡ rest ++ group ∷ [] → IsGroup group
last_group old rest group are was = are.each group (contains_from_among old group (subst (λ gs. Among gs group) (sym was) (Among-append_right rest (group ∷ []) group (inl refl))))

last_shown : (old rest : List Group) (group : Group) (e : Facts) → old ≡ rest ++ group ∷ [] → ((f : Facts) → Contains (shown_all old) f → order f e ≡ Less) → (f : Facts) → Among (shown group.1) f → order f e ≡ Less
last_shown old rest group e was below f h =
    below f (contains_from_among (shown_all old) f (subst (λ gs. Among (shown_all gs) f) (sym was)
    (Among-flat_map_back (λ (g : Group). shown g.1) (rest ++ group ∷ []) group f (Among-append_right rest (group ∷ []) group (inl refl)) h)))

-- it has the key of the last group
pub appended_there : (old new rest : List Group) (key : List ℕ) (before after : Captures) (s : Shared) (e : Facts) (m : Moment)
    → entry_of s ≡ e → key ≡ e.key → m ≡ moment_of e → m.1 < 2 ^ 32 → AreGroups old → ((f : Facts) → Contains (shown_all old) f → order f e ≡ Less)
    → old ≡ rest ++ (key, before) ∷ [] → new ≡ rest ++ (key, after) ∷ [] → IsInOrder after → Changes before after m (Some (entry_of s))
    → AreGroups new × (shown_all new ≡ shown_all old ++ e ∷ [])
appended_there old new rest key before after s e m value keyed at fits are below was is ordered changes = (
  subst AreGroups (sym is) (AreGroups-last rest (key, before) (key, after) (subst AreGroups was are) refl group),
  ap shown_all is ∙ shown_all-append rest (key, after) ∙ ap (λ l. shown_all rest ++ l) shows ∙ sym (append_assoc (shown_all rest) (shown before) (e ∷ []))
      ∙ ap (λ l. l ++ e ∷ []) (sym (shown_all-append rest (key, before)) ∙ ap shown_all (sym was)),
)
  where
    of_before : AreOfKey e.key before
    of_before = subst (λ k. AreOfKey k before) keyed (last_group old rest (key, before) are was).of_key

    puts : Changes before after (moment_of e) (Some (entry_of s))
    puts = subst (λ n. Changes before after n (Some (entry_of s))) at changes

    is_held : IsHeld e.key (moment_of e) (entry_of s)
    is_held = subst (IsHeld e.key (moment_of e)) (sym value) (record { keyed = refl; placed = refl; fits = subst (λ (n : Moment). n.1 < 2 ^ 32) at fits })

    of_after : AreOfKey e.key after
    of_after = AreOfKey-put e.key before after (moment_of e) s of_before ordered puts is_held

    shows : shown after ≡ shown before ++ e ∷ []
    shows = shown-put before after s e value of_before of_after puts (last_shown old rest (key, before) e was below)

    group : IsGroup (key, after)
    group = record { of_key = subst (λ k. AreOfKey k after) (sym keyed) of_after; some = λ none. not_nil (shown before) e (sym shows ∙ none) }

last_key_below : (last : Group) (e : Facts) → IsGroup last → ((f : Facts) → Among (shown last.1) f → order f e ≡ Less) → slice_cmp nat_cmp last.0 e.key ≢ Equal → slice_cmp nat_cmp last.0 e.key ≡ Less
last_key_below last e is below apart =
    let f = some_member (shown last.1) is.some in
    let keyed : f.0.key ≡ last.0 = (held_from_shown last.0 last.1 is.of_key f.0 f.1).1 in
    subst (λ k. slice_cmp nat_cmp k e.key ≡ Less) keyed
    (key_before (slice_cmp nat_cmp f.0.key e.key) (moment_cmp (moment_of f.0) (moment_of e)) (below f.0 f.1) (λ same. apart (subst (λ k. slice_cmp nat_cmp k e.key ≡ Equal) keyed same)))

-- its key comes after that of the last group
pub appended_apart : (old middle new rest : List Group) (last group : Group) (e : Facts) → group.0 ≡ e.key → slice_cmp nat_cmp last.0 e.key ≢ Equal → AreGroups old → ((f : Facts) → Contains (shown_all old) f → order f e ≡ Less)
    → old ≡ rest ++ last ∷ [] → middle ≡ rest ++ last ∷ [] → new ≡ middle ++ group ∷ [] → IsGroup group → AreGroups new
appended_apart old middle new rest last group e keyed apart are below was back is group_is =
    let less : slice_cmp nat_cmp last.0 group.0 ≡ Less = ap (slice_cmp nat_cmp last.0) keyed ∙ last_key_below last e (last_group old rest last are was) (last_shown old rest last e was below) apart in
    let sorted : IsStrictlySortedBy (slice_cmp nat_cmp) (keys_of (rest ++ last ∷ [])) = subst (λ gs. IsStrictlySortedBy (slice_cmp nat_cmp) (keys_of gs)) was are.ordered in
    let listed : new ≡ old ++ group ∷ [] = is ∙ ap (λ gs. gs ++ group ∷ []) (back ∙ sym was) in
    subst AreGroups (sym listed) (AreGroups-push old group are (λ k h. below_last rest last group.0 sorted less k (subst (λ gs. Among (keys_of gs) k) was h)) group_is)

pub AreGroups-none : AreGroups []
unfolding IsStrictlySortedBy
AreGroups-none = record { ordered = tt; each = λ group h. absurd (among_from_contains [] group h) }

-- there is none yet
pub appended_first : (old new : List Group) (group : Group) → old ≡ [] → new ≡ old ++ group ∷ [] → IsGroup group → AreGroups new
appended_first old new group none is group_is =
    subst AreGroups (sym (is ∙ ap (λ gs. gs ++ group ∷ []) none)) (AreGroups-push [] group AreGroups-none (λ k h. absurd h) group_is)
