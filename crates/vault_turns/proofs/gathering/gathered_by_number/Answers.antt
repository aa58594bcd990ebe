use Rattle.std.proofs.Common.{sym, subst, arith, List}
use Rattle.index_entry.specs.Facts.{Facts}
use Rattle.vault_turns.specs.Taking.{HasBelow}
use Rattle.vault_turns.proofs.GatherLaws.{has_nothing}
use Rattle.vault_turns.proofs.gathering.gathered_by_number.Goals as goal

pub loop-number-init : goal.loop-number-init
loop-number-init g c = record {
  within = omega arith;
  has = subst (λ (index : List Facts). HasBelow 0 c.args.archive.now.index index) (sym c.new-index.ensures) (has_nothing c.args.archive.now.index);
}
