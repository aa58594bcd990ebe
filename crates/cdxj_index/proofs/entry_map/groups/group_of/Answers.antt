use Rattle.std.proofs.Common.{ap, ◌∙◌}
use Rattle.index_entry.specs.Facts.{Facts}
use Rattle.cdxj_index.proofs.Grouped.{one_group}
use Rattle.cdxj_index.proofs.entry_map.groups.group_of.Goals as goal

pub returns-clause-group : goal.returns-clause-group
returns-clause-group c = one_group c.in_ok-key.key c.args.entry (c.in_ok-key.ensures ∙ ap (λ (f : Facts). f.key) (c.facts.view_is ∙ c.facts-facts.ensures)) c.requires
