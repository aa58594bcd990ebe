use Rattle.std.proofs.Common.{sym, ◌∙◌, arith}
use Rattle.revisit_table.proofs.digests.Digests.reserve.Goals as goal

pub invariant_of-self-in_err-reserve_at : goal.invariant_of-self-in_err-reserve_at
invariant_of-self-in_err-reserve_at c =
    let old = c.self.invariant in
    let items = c.reserve.ensures.items in
    let len = c.reserve.ensures.len in
    let capacity = c.reserve.ensures.capacity in
    record {
      rising = rw items old.rising;
      same = λ other. rw items (c.reserve_at.ensures.same other ∙ old.same other);
      room = λ other reserved. let room = old.room other reserved in omega arith;
      spare = λ other reserved. let spare = old.spare other reserved in let more = c.reserve_at.ensures.spare other in omega arith;
      used = λ other unreserved none. c.in_err-reserve_at.ensures.err other ∙ old.used other unreserved (sym (c.reserve_at.ensures.same other) ∙ none);
    }
