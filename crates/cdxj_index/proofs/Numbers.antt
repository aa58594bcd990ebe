-- The map of numbers beside the list of entries.
use Rattle.std.proofs.Common.{◌≡◌, ◌≢◌, ℕ, suc, Bool, true, false, not, ◌==◌, List, [], ◌∷◌, inl, inr, cond, length, Option, None, Some, refl, sym, ap, ◌∙◌, subst, arith}
use Rattle.std.specs.Prelude.{Contains, option_map}
use Rattle.std.specs.declared.cmp.Ordering.TheVariants.{Less, Equal}
use Rattle.std.specs.BTreeMap.{BTreeMap, Updates, btree_map_len, get}
use Rattle.std.specs.List.Sorted.{IsStrictlySortedBy}
use Rattle.std.specs.Ordering.{nat_cmp, is_eq}
use Rattle.std.proofs.lemmas.Cmp.{ranked, nat_cmp_total, tied_itself}
use Rattle.index_entry.specs.Facts.{Facts}
use Rattle.cdxj_index.specs.Maps.{AreNumbers, Shared, entry_of, numbered}
use Rattle.index_entry.specs.Order.{order, with_entry, without}
use Rattle.index_entry.specs.Queries.{with_number}
use Rattle.index_entry.proofs.Orders.{equal_from_is_eq, order_total}
use Rattle.index_entry.proofs.Members.{Among, among_from_contains, contains_from_among, all_among, not_below_itself}
use Rattle.index_entry.proofs.Entries.{InOrder, Among-with_entry, Among-with_entry_back, Among-without, Among-without_back, length-with_entry, with_number-some, with_number-none, without-absent}

pub number_of_tie : (a b : ℕ) → is_eq (nat_cmp a b) ≡ true → a ≡ b
number_of_tie a b tied = ranked a b Equal (sym (equal_from_is_eq (nat_cmp a b) tied))

-- what is numbered after a change at a number
numbered_changed : (old new : BTreeMap ℕ Shared) (n : ℕ) (s : Option Shared) → Updates nat_cmp old new n s → (m : ℕ) → numbered new m ≡ cond (is_eq (nat_cmp n m)) (option_map entry_of s) (numbered old m)
numbered_changed old new n s updates m = ap (option_map entry_of) (updates.0 m) ∙ inside (is_eq (nat_cmp n m)) (get nat_cmp old m)
  where
    inside : (b : Bool) (found : Option Shared) → option_map entry_of (cond b s found) ≡ cond b (option_map entry_of s) (option_map entry_of found)
    inside true found = refl
    inside false found = refl

numbered_itself : (old new : BTreeMap ℕ Shared) (n : ℕ) (s : Option Shared) → Updates nat_cmp old new n s → numbered new n ≡ option_map entry_of s
numbered_itself old new n s updates = ap (option_map entry_of) updates.1

-- no two entries have one number
pub alone : (entries : List Facts) (numbers : BTreeMap ℕ Shared) → AreNumbers entries numbers → (e f : Facts) → Among entries e → Among entries f → f.number ≡ e.number → f ≡ e
alone entries numbers are e f h h₂ same =
    let a = are.found e (contains_from_among entries e h) in
    let b = are.found f (contains_from_among entries f h₂) in
    let one : Some f ≡ Some e = sym b ∙ ap (numbered numbers) same ∙ a in
    cc

found_number : (entries : List Facts) (numbers : BTreeMap ℕ Shared) (n : ℕ) (listed : Option Facts) → AreNumbers entries numbers → with_number n entries ≡ listed → numbered numbers n ≡ listed
found_number entries numbers n (Some f) are is =
    let some = with_number-some n entries f is in
    ap (numbered numbers) (sym some.1) ∙ are.found f (contains_from_among entries f some.0)
found_number entries numbers n None are is = absent (numbered numbers n) refl
  where
    absent : (found : Option Facts) → numbered numbers n ≡ found → numbered numbers n ≡ None
    absent None e = e
    absent (Some f) e =
        let there = are.shown n f e in
        absurd (with_number-none n entries is f (among_from_contains entries f there.0) there.1)

-- the entry of a number is the one in the list
pub numbered-is : (entries : List Facts) (numbers : BTreeMap ℕ Shared) (n : ℕ) → AreNumbers entries numbers → numbered numbers n ≡ with_number n entries
numbered-is entries numbers n are = found_number entries numbers n (with_number n entries) are refl

pub AreNumbers-put : (entries : List Facts) (old new : BTreeMap ℕ Shared) (s : Shared) (e : Facts) → entry_of s ≡ e → AreNumbers entries old → with_number e.number entries ≡ None → Updates nat_cmp old new e.number (Some s) → btree_map_len new ≡ suc (btree_map_len old)
    → AreNumbers (with_entry e entries) new
AreNumbers-put entries old new s e value are absent updates count = record {
  found = λ f h. elim (Among-with_entry e entries f (among_from_contains (with_entry e entries) f h)) [
    | inl is ↦ subst (λ g. numbered new g.number ≡ Some g) is (numbered_itself old new e.number (Some s) updates ∙ ap Some value)
    | inr among ↦ later f among (is_eq (nat_cmp e.number f.number)) refl
  ];
  shown = λ n f there. which n f (is_eq (nat_cmp e.number n)) refl (sym (numbered_changed old new e.number (Some s) updates n) ∙ there);
  count = count ∙ ap suc are.count ∙ sym (length-with_entry e entries);
}
  where
    later : (f : Facts) → Among entries f → (b : Bool) → is_eq (nat_cmp e.number f.number) ≡ b → numbered new f.number ≡ Some f
    later f among true tied = absurd (with_number-none e.number entries absent f among (sym (number_of_tie e.number f.number tied)))
    later f among false apart =
        numbered_changed old new e.number (Some s) updates f.number ∙ ap (λ b. cond b (Some (entry_of s)) (numbered old f.number)) apart ∙ are.found f (contains_from_among entries f among)

    which : (n : ℕ) (f : Facts) (b : Bool) → is_eq (nat_cmp e.number n) ≡ b → cond b (Some (entry_of s)) (numbered old n) ≡ Some f → Contains (with_entry e entries) f × (f.number ≡ n)
    which n f true tied there =
        let is : e ≡ f = cc (there, value) in
        (contains_from_among (with_entry e entries) f (Among-with_entry_back e entries f (inl is)), ap (λ g. g.number) (sym is) ∙ number_of_tie e.number n tied)
    which n f false apart there =
        let before = are.shown n f there in
        (contains_from_among (with_entry e entries) f (Among-with_entry_back e entries f (inr (among_from_contains entries f before.0))), before.1)

-- one entry fewer
one_fewer : (b : Bool) (n : ℕ) (first : Facts) (others : List Facts) → not (first.number == n) ≡ b → (b ≡ false → without n others ≡ others) → (b ≡ true → suc (length (without n others)) ≡ length others) → suc (length (cond b (first ∷ without n others) (without n others))) ≡ suc (length others)
one_fewer true n first others is here later = ap suc (later refl)
one_fewer false n first others is here later = ap (λ es. suc (length es)) (here refl)

pub length-without : (e : Facts) (entries : List Facts) → InOrder entries → Among entries e → ((f : Facts) → Among entries f → f.number ≡ e.number → f ≡ e) → suc (length (without e.number entries)) ≡ length entries
unfolding IsStrictlySortedBy
length-without e [] sorted h only = absurd h
length-without e (first ∷ others) sorted h only =
    one_fewer (not (first.number == e.number)) e.number first others refl
    (λ here.
    let is : first ≡ e = only first (inl refl) (grind arith) in
    without-absent e.number others (λ f among same.
    let again : f ≡ e = only f (inr among) same in
    let below : order first f ≡ Less = all_among (λ g. order first g ≡ Less) others sorted.0 f among in
    not_below_itself order order_total first (subst (λ g. order first g ≡ Less) (again ∙ sym is) below)))
    (λ apart. elim h [
      | inl is ↦ absurd (grind (arith, ap (λ (g : Facts). g.number) is))
      | inr among ↦ length-without e others sorted.1 among (λ f a same. only f (inr a) same)
    ])

pub AreNumbers-take : (entries : List Facts) (old new : BTreeMap ℕ Shared) (e : Facts) → InOrder entries → AreNumbers entries old → Among entries e → Updates nat_cmp old new e.number None → suc (btree_map_len new) ≡ btree_map_len old → AreNumbers (without e.number entries) new
AreNumbers-take entries old new e sorted are among updates count = record {
  found = λ f h.
      let kept = Among-without e.number entries f (among_from_contains (without e.number entries) f h) in
      later f kept.0 kept.1 (is_eq (nat_cmp e.number f.number)) refl;
  shown = λ n f there. which n f (is_eq (nat_cmp e.number n)) refl (sym (numbered_changed old new e.number None updates n) ∙ there);
  count = omega (arith, count, are.count, length-without e entries sorted among (λ f a same. alone entries old are e f among a same));
}
  where
    later : (f : Facts) → Among entries f → f.number ≢ e.number → (b : Bool) → is_eq (nat_cmp e.number f.number) ≡ b → numbered new f.number ≡ Some f
    later f a apart true tied = absurd (apart (sym (number_of_tie e.number f.number tied)))
    later f a apart false other =
        numbered_changed old new e.number None updates f.number ∙ ap (λ b. cond b None (numbered old f.number)) other ∙ are.found f (contains_from_among entries f a)

    which : (n : ℕ) (f : Facts) (b : Bool) → is_eq (nat_cmp e.number n) ≡ b → cond b None (numbered old n) ≡ Some f → Contains (without e.number entries) f × (f.number ≡ n)
    which n f true tied there = cc
    which n f false other there =
        let before = are.shown n f there in (
          contains_from_among (without e.number entries) f (Among-without_back e.number entries f (among_from_contains entries f before.0) (λ same.
              let itself = tied_itself nat_cmp_total n in
              let tied : nat_cmp e.number n ≡ Equal = ap (λ m. nat_cmp m n) (sym same ∙ before.1) ∙ itself in
              cc (ap is_eq tied, other))),
          before.1,
        )

-- what was put at a number that was free, and taken again
pub AreNumbers-undone : (entries : List Facts) (old middle new : BTreeMap ℕ Shared) (n : ℕ) (s : Shared) → AreNumbers entries old → with_number n entries ≡ None → Updates nat_cmp old middle n (Some s) → Updates nat_cmp middle new n None → btree_map_len new ≡ btree_map_len old → AreNumbers entries new
AreNumbers-undone entries old middle new n s are absent puts takes count = record {
  found = λ f h. same f.number ∙ are.found f h;
  shown = λ m f there. are.shown m f (sym (same m) ∙ there);
  count = count ∙ are.count;
}
  where
    at : (m : ℕ) (b : Bool) → is_eq (nat_cmp n m) ≡ b → numbered new m ≡ numbered old m
    at m true tied =
        let is : n ≡ m = number_of_tie n m tied in
        ap (numbered new) (sym is) ∙ numbered_itself middle new n None takes ∙ sym (found_number entries old n None are absent) ∙ ap (numbered old) is
    at m false apart =
        numbered_changed middle new n None takes m ∙ ap (λ b. cond b None (numbered middle m)) apart
        ∙ numbered_changed old middle n (Some s) puts m ∙ ap (λ b. cond b (Some (entry_of s)) (numbered old m)) apart

    same : (m : ℕ) → numbered new m ≡ numbered old m
    same m = at m (is_eq (nat_cmp n m)) refl
