-- The capture stands behind the others, and nothing is kept for a digest that was reserved and not added.
use Rattle.std.proofs.Common.{◌≡◌, ◌≢◌, ◌<◌, ℕ, false, List, [], ◌∷◌, ◌++◌, Option, None, Some, sym, subst, ◌∙◌, ap, cond, arith, inl, inr}
use Rattle.std.specs.Prelude.{All, Vec}
use Rattle.std.specs.BTreeMap.{BTreeMap}
use Rattle.std.specs.Str.{bytes_eq}
use Rattle.std.proofs.lemmas.List.Elements.{recursion_from_All}
use Rattle.revisit_table.specs.Lists.{AreListsOf, Numbers, has_list, numbers_at}
use Rattle.revisit_table.proofs.Rising.{increasing-push}
use Rattle.revisit_table.proofs.TableLemmas.{numbers-push, none_added, somes_apart, this_or_apart}
use Rattle.revisit_table.proofs.digests.Digests.put.Goals as goal

none_apart : (digest : List ℕ) → None ≢ Some digest
none_apart digest same = cc

-- the lists of one capture more, where no room is reserved any more
with_one_more : {Z : Type 0} (kept longer : Vec (List ℕ × ℕ) Z) (lists now : BTreeMap (List ℕ) Numbers) (reserved left : Option (List ℕ)) (digest : List ℕ) (number : ℕ) → AreListsOf kept lists reserved
    → longer.items ≡ kept.items ++ (digest, number) ∷ [] → All (λ entry. entry.1 < number) kept.items
    → ((other : List ℕ) → numbers_at now other ≡ numbers_at lists other ++ cond (bytes_eq digest other) (number ∷ []) [])
    → ((other : List ℕ) → numbers_at now other ≡ [] → has_list now other ≡ false)
    → left ≡ None → AreListsOf longer now left
with_one_more kept longer lists now reserved left digest number old pushed above added used none_left = record {
  rising = rw pushed (increasing-push (λ entry. entry.1) kept.items (digest, number) old.rising (recursion_from_All (λ entry. entry.1 < number) kept.items above));
  same = λ other. rw pushed (added other ∙ ap (λ l. l ++ cond (bytes_eq digest other) (number ∷ []) []) (old.same other) ∙ sym (numbers-push other kept.items digest number));
  room = λ other has. absurd (none_apart other (sym none_left ∙ has));
  spare = λ other has. absurd (none_apart other (sym none_left ∙ has));
  used = λ other unreserved none. used other none;
}

pub invariant_of-self-in_err-put_at : goal.invariant_of-self-in_err-put_at
invariant_of-self-in_err-put_at c =
    let old = c.self.invariant in
    let items = c.reserve.ensures.items in
    let len = c.reserve.ensures.len in
    let capacity = c.reserve.ensures.capacity in
    let refused = c.in_err-put_at.ensures in
    record {
      rising = rw items old.rising;
      same = λ other. rw items (refused.same other ∙ old.same other);
      room = λ other reserved. let room = old.room other reserved in omega arith;
      spare = λ other reserved. let spare = old.spare other reserved in let more = refused.spare other in omega arith;
      used = λ other unreserved none. refused.err other ∙ old.used other unreserved (sym (refused.same other) ∙ none);
    }

pub invariant_of-self-in_default : goal.invariant_of-self-in_default
invariant_of-self-in_default c =
    let old = c.self.invariant in
    let number = c.args.number in
    let digest = c.args.digest.now in
    let put = c.in_ok-put_at.ensures in
    let unreserved = sym c.take.ensures.value ∙ c.in_default.is in
    let pushed = c.push_reserved.ensures.items ∙ ap (λ l. l ++ (digest, number) ∷ []) c.reserve.ensures.items in
    with_one_more c.self.inside.kept c.push_reserved.new.self c.self.inside.lists c.put_at.new.lists c.self.inside.reserved c.take.new.self digest number old
    pushed (rw (sym c.self.view_is) at c.requires.above) put.ok
    (λ other none.
    let added = none_added (bytes_eq digest other) number _ _ (put.ok other) none in
    put.others other added.0 ∙ old.used other (λ has. none_apart other (sym unreserved ∙ has)) added.1)
    c.take.ensures.after

pub invariant_of-self-in-Some : goal.invariant_of-self-in-Some
invariant_of-self-in-Some c =
    let old = c.self.invariant in
    let number = c.args.number in
    let digest = c.args.digest.now in
    let before = c.in-Some.before in
    let put = c.in_ok-put_at.ensures in
    let dropped = c.drop_unused.ensures in
    let reserved = sym c.take.ensures.value ∙ c.in-Some.is in
    let pushed = c.push_reserved.ensures.items ∙ ap (λ l. l ++ (digest, number) ∷ []) c.reserve.ensures.items in
    with_one_more c.self.inside.kept c.push_reserved.new.self c.self.inside.lists c.drop_unused.new.lists c.self.inside.reserved c.take.new.self digest number old
    pushed (rw (sym c.self.view_is) at c.requires.above) (λ other. dropped.same other ∙ put.ok other)
    (λ other none.
    let left = sym (dropped.same other) ∙ none in
    elim (this_or_apart before other) [
      | inl this ↦ subst (λ d. has_list c.drop_unused.new.lists d ≡ false) this (dropped.unused (none_apart before) (ap (numbers_at c.put_at.new.lists) this ∙ left))
      | inr apart ↦
          let added = none_added (bytes_eq digest other) number _ _ (put.ok other) left in
          dropped.others other apart ∙ put.others other added.0 ∙ old.used other (λ has. somes_apart before other apart (sym reserved ∙ has)) added.1
    ])
    c.take.ensures.after
