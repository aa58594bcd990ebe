use Rattle.std.proofs.Common.{◌++◌, [], ap, ◌∙◌}
use Rattle.cdxj_index.specs.Maps.{shown_while}
use Rattle.cdxj_index.proofs.Starts.{all_begin, all_between}
use Rattle.cdxj_index.proofs.entry_map.iterators.Starting.all.Goals as goal

pub returns : goal.returns
returns c =
    ap (λ l. l ++ shown_while [] c.range.result) c.none.ensures ∙ ap (shown_while []) (c.range.ensures.between tt ∙ all_between c.args.keys.now.entries)
    ∙ all_begin c.args.keys.now.entries
