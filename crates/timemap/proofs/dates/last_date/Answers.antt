-- The element at the end is the last one.
use Rattle.std.proofs.Common.{◌≡◌, ◌+◌, ◌-◌, ◌∙◌, length, ap, arith}
use Rattle.index_entry.specs.Facts.{Facts}
use Rattle.timemap.proofs.OnceLemmas.{last_at_end}
use Rattle.timemap.proofs.dates.last_date.Goals as goal

pub returns-clause-value : goal.returns-clause-value
returns-clause-value c =
    let entries = c.args.entries.now in
    let long : length entries ≡ (length entries - 1) + 1 = omega arith in
    c.date_of.ensures.value ∙ ap (λ (e : Facts). e.date) c.index-entries-entries.is ∙ last_at_end entries (length entries - 1) _ long
