use Rattle.std.proofs.Common.{◌∙◌}
use Rattle.std.specs.BTreeMap.{IsFromIterResult}
use Rattle.std.specs.Ordering.{nat_cmp}
use Rattle.std.proofs.lemmas.Iterator.Adapters.{YieldsList-from_vec}
use Rattle.cdxj_index.proofs.Built.{all_made, made_from}
use Rattle.cdxj_index.proofs.index.Index.of_parts.Goals as goal

pub invariant_of-result : goal.invariant_of-result
invariant_of-result c =
    let numbers = made_from _ _ (IsFromIterResult nat_cmp) c.settle.new.numbers.items c.in_ok-from_iter.field-0 c.in_ok-from_iter.ensures.ran (λ it b. YieldsList-from_vec {s = it} _ b.0 (b.1 ∙ c.settle.new.numbers.ok.0)) in
    (all_made c.args.groups.items c.args.numbers.items c.settle.new.numbers.items c.in_ok-of_groups.field-0.keys c.in_ok-from_iter.field-0 c.requires.index c.requires.groups c.requires.numbers c.settle.ensures c.in_ok-of_groups.ensures numbers).0

pub returns : goal.returns
returns c =
    let numbers = made_from _ _ (IsFromIterResult nat_cmp) c.settle.new.numbers.items c.in_ok-from_iter.field-0 c.in_ok-from_iter.ensures.ran (λ it b. YieldsList-from_vec {s = it} _ b.0 (b.1 ∙ c.settle.new.numbers.ok.0)) in
    (all_made c.args.groups.items c.args.numbers.items c.settle.new.numbers.items c.in_ok-of_groups.field-0.keys c.in_ok-from_iter.field-0 c.requires.index c.requires.groups c.requires.numbers c.settle.ensures c.in_ok-of_groups.ensures numbers).1
