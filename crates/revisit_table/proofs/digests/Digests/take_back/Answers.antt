use Rattle.std.proofs.Common.{◌≡◌, ◌==◌, false, not, cond, Some, sym, subst, ◌∙◌, ap, arith, inl, inr}
use Rattle.std.specs.Prelude.{filter}
use Rattle.std.specs.Str.{bytes_eq}
use Rattle.revisit_table.proofs.Rising.{increasing-filter}
use Rattle.revisit_table.specs.Lists.{has_list, numbers_at}
use Rattle.revisit_table.proofs.TableLemmas.{numbers_rise, numbers-taken, this_or_apart}
use Rattle.revisit_table.proofs.digests.Digests.take_back.Goals as goal

pub take_at-requires : goal.take_at-requires
take_at-requires c =
    rw (c.self.invariant.same c.remove.result.0) (numbers_rise c.remove.result.0 c.self.inside.kept.items c.self.invariant.rising)

pub invariant_of-self : goal.invariant_of-self
invariant_of-self c =
    let old = c.self.invariant in
    let kept = c.self.inside.kept.items in
    let number = c.args.number in
    let removed = c.remove.ensures in
    let within = rw c.as_slice.ensures.value at c.in-Some.ensures.within in
    let found = rw c.as_slice.ensures.value at c.in-Some.ensures.found in
    let digest = c.remove.result.0 in
    record {
      rising = rw (removed.items, sym found) (increasing-filter (λ entry. entry.1) (λ entry. not (entry.1 == number)) kept old.rising);
      same = λ other. rw (removed.items, numbers-taken other kept c.in-Some.place number c.remove.result removed.value within found)
          (c.drop_unused.ensures.same other ∙ c.take_at.ensures.same other ∙ ap (λ l. cond (bytes_eq digest other) (filter (λ n. not (n == number)) l) l) (old.same other));
      room = λ other reserved. let room = old.room other reserved in omega (arith, removed.len, removed.capacity);
      spare = λ other reserved. let spare = old.spare other reserved in let more = c.take_at.ensures.spare other in let kept = c.drop_unused.ensures.spare other reserved in omega arith;
      used = λ other unreserved none.
          let left = sym (c.drop_unused.ensures.same other) ∙ none in
          elim (this_or_apart digest other) [
            | inl this ↦ subst (λ d. has_list c.drop_unused.new.lists d ≡ false) this (c.drop_unused.ensures.unused (λ e. unreserved (e ∙ ap Some this)) (ap (numbers_at c.take_at.new.lists) this ∙ left))
            | inr apart ↦
                let stay = rw apart at (c.take_at.ensures.same other) in
                c.drop_unused.ensures.others other apart ∙ c.take_at.ensures.lists other ∙ old.used other unreserved (sym stay ∙ left)
          ];
    }
