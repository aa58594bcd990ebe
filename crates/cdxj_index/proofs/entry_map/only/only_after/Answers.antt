use Rattle.std.proofs.Common.{◌<◌, ap, subst, sym, ◌∙◌}
use Rattle.index_entry.specs.Facts.{Facts}
use Rattle.cdxj_index.specs.declared.entry_map.captures.Captures.TheVariants.{One}
use Rattle.cdxj_index.specs.Maps.{IsFirstAfter}
use Rattle.cdxj_index.proofs.Sides.{one_after}
use Rattle.cdxj_index.proofs.entry_map.only.only_after.Goals as goal

pub returns-then-time-facts-clause-some : goal.returns-then-time-facts-clause-some
returns-then-time-facts-clause-some c =
    let date = ap (λ (f : Facts). f.date) (c.facts.view_is ∙ c.facts-facts.ensures) in
    subst (IsFirstAfter (One c.args.entry.now) c.args.time) (sym c.facts-facts.ensures) (one_after c.args.entry.now c.args.time (subst (λ d. c.args.time < d) date c.if-time-facts.true))
