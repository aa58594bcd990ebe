use Rattle.std.proofs.Common.{◌≤◌, ap, subst, sym, ◌∙◌}
use Rattle.index_entry.specs.Facts.{Facts}
use Rattle.cdxj_index.specs.declared.entry_map.captures.Captures.TheVariants.{One}
use Rattle.cdxj_index.specs.Maps.{IsLastUntil}
use Rattle.cdxj_index.proofs.Sides.{one_until}
use Rattle.cdxj_index.proofs.entry_map.only.only_until.Goals as goal

pub returns-then-facts-time-clause-some : goal.returns-then-facts-time-clause-some
returns-then-facts-time-clause-some c =
    let date = ap (λ (f : Facts). f.date) (c.facts.view_is ∙ c.facts-facts.ensures) in
    subst (IsLastUntil (One c.args.entry.now) c.args.time) (sym c.facts-facts.ensures) (one_until c.args.entry.now c.args.time (subst (λ d. d ≤ c.args.time) date c.if-facts-time.true))
