use Rattle.std.proofs.Common.{List, ◌++◌, sym, ap, ◌∙◌}
use Rattle.std.specs.Prelude.{nat_eq}
use Rattle.std.specs.List.{starts_with}
use Rattle.std.proofs.lemmas.List.{append-nil}
use Rattle.index_entry.specs.Facts.{Facts}
use Rattle.archive_index.proofs.FindingLaws as laws
use Rattle.archive_index.proofs.finding.starting.Goals as goal

pub returns : goal.returns
returns c =
    let entries = c.loop-entry.entries.items in
    laws.picked_shown (λ e. starts_with nat_eq e.key c.args.start.now) c.args.index.now entries c.requires
    (sym (c.loop-entry.invariant ∙ ap (λ (l : List Facts). entries ++ l) c.in-None.ensures.steps.0 ∙ append-nil entries))
