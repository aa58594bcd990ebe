-- Nothing is.
use Rattle.vault_turns.specs.History.{not_sure}
use Rattle.test_vault.proofs.passes.not_said.Given as goal

abbrev pub ghost-told_by : goal.ghost-told_by
ghost-told_by g a = not_sure
