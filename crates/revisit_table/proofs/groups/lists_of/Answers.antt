use Rattle.std.proofs.Common.{ap, ◌∙◌}
use Rattle.std.specs.BTreeMap.{IsFromIterResult}
use Rattle.std.specs.Cmp.Lexicographic.{slice_cmp}
use Rattle.std.specs.Ordering.{nat_cmp}
use Rattle.std.proofs.lemmas.Iterator.Adapters.{YieldsList-from_vec}
use Rattle.revisit_table.specs.Table.{numbers_of}
use Rattle.revisit_table.proofs.GroupLemmas.{made_from, same_in_map, used_in_map}
use Rattle.revisit_table.proofs.groups.lists_of.Goals as goal

pub returns-clause-same : goal.returns-clause-same
returns-clause-same c = λ digest.
    let groups = c.in_ok-groups.groups in
    let made = made_from _ _ (IsFromIterResult (slice_cmp nat_cmp)) groups.items c.in_ok-from_iter.field-0 c.in_ok-from_iter.ensures.ran (λ it b. YieldsList-from_vec {s = it} _ b.0 (b.1 ∙ groups.ok.0)) in
    same_in_map groups.items c.in_ok-from_iter.field-0 made digest ∙ c.in_ok-groups.ensures.same digest ∙ ap (numbers_of digest) c.as_slice.ensures.value ∙ c.in_ok-sorted.ensures.same digest

pub returns-clause-used : goal.returns-clause-used
returns-clause-used c = λ digest none.
    let groups = c.in_ok-groups.groups in
    let made = made_from _ _ (IsFromIterResult (slice_cmp nat_cmp)) groups.items c.in_ok-from_iter.field-0 c.in_ok-from_iter.ensures.ran (λ it b. YieldsList-from_vec {s = it} _ b.0 (b.1 ∙ groups.ok.0)) in
    used_in_map groups.items c.in_ok-from_iter.field-0 made c.in_ok-groups.ensures.filled digest none
