use Rattle.std.proofs.Common.{◌∙◌}
use Rattle.std.specs.BTreeMap.{IsFromIterResult}
use Rattle.std.specs.Cmp.Lexicographic.{slice_cmp}
use Rattle.std.specs.Ordering.{nat_cmp}
use Rattle.std.proofs.lemmas.Iterator.Adapters.{YieldsList-from_vec}
use Rattle.cdxj_index.proofs.Built.{made_from}
use Rattle.cdxj_index.proofs.entry_map.EntryMap.of_groups.Goals as goal

pub returns : goal.returns
returns c =
    made_from _ _ (IsFromIterResult (slice_cmp nat_cmp)) c.args.groups.items c.in_ok-from_iter.field-0 c.in_ok-from_iter.ensures.ran (λ it b. YieldsList-from_vec {s = it} _ b.0 (b.1 ∙ c.args.groups.ok.0))
