-- Nothing is.
use Rattle.vault_turns.specs.History.{not_sure}
use Rattle.bench_vault.proofs.vaults.not_said.Given as goal

abbrev pub ghost-told_by : goal.ghost-told_by
ghost-told_by g a = not_sure
