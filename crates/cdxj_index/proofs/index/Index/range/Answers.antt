use Rattle.std.proofs.Common.{ap, ◌∙◌}
use Rattle.index_entry.specs.Queries.{of_key}
use Rattle.cdxj_index.proofs.index.Index.range.Goals as goal

pub range-requires : goal.range-requires
range-requires c = c.self.invariant.of_keys

pub returns : goal.returns
returns c = c.range.ensures ∙ ap (of_key c.args.key.now) c.self.view_is
