use Rattle.std.proofs.Common.{rules, ◌∷◌, sym, ap, ◌∙◌, Some}
use Rattle.atomic_table.specs.Table.{rest}
use Rattle.history_lock.proofs.steps.take.Goals as goal

pub exchange-requires : goal.exchange-requires
exchange-requires g c = let x = c.requires.full in (search rules, (Some x.0, x.1 ∙ ap (λ cs. (0, Some x.0) ∷ rest cs) (sym x.1)))
