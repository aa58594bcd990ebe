use Rattle.std.proofs.Common.{sym, ap, subst, ◌∙◌}
use Rattle.index_entry.specs.Queries.{IsIndex, starting_with}
use Rattle.bench.proofs.AllKeys.{all_start}
use Rattle.bench.proofs.index.copies.Goals as goal

pub returns : goal.returns
returns c =
    let all = c.in_ok-list.ensures ∙ ap (λ s. starting_with s c.args.index.now) c.in_ok-start-in-Ok.ensures ∙ all_start c.args.index.now in
    subst IsIndex (sym all) c.len-room.ensures.index
