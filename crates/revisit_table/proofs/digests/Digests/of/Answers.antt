use Rattle.std.proofs.Common.{ap, ◌∙◌}
use Rattle.revisit_table.specs.Table.{numbers_of}
use Rattle.revisit_table.proofs.digests.Digests.of.Goals as goal

pub invariant_of-result : goal.invariant_of-result
invariant_of-result c = record {
  rising = c.requires.rising;
  same = λ digest. c.in_ok-lists.ensures.same digest ∙ ap (numbers_of digest) c.as_slice.ensures.value;
  room = λ digest reserved. cc;
  spare = λ digest reserved. cc;
  used = λ digest unreserved none. c.in_ok-lists.ensures.used digest none;
}
