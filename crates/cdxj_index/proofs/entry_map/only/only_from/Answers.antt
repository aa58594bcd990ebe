use Rattle.std.proofs.Common.{◌≤◌, ap, subst, sym, ◌∙◌}
use Rattle.index_entry.specs.Facts.{Facts}
use Rattle.cdxj_index.specs.declared.entry_map.captures.Captures.TheVariants.{One}
use Rattle.cdxj_index.specs.Maps.{IsFirstFrom}
use Rattle.cdxj_index.proofs.Sides.{one_from}
use Rattle.cdxj_index.proofs.entry_map.only.only_from.Goals as goal

pub returns-then-date-facts-clause-some : goal.returns-then-date-facts-clause-some
returns-then-date-facts-clause-some c =
    let date = ap (λ (f : Facts). f.date) (c.facts.view_is ∙ c.facts-facts.ensures) in
    subst (IsFirstFrom (One c.args.entry.now) c.args.date) (sym c.facts-facts.ensures) (one_from c.args.entry.now c.args.date (subst (λ d. c.args.date ≤ d) date c.if-date-facts.true))
