-- What is told of the disk.
use Rattle.vault_turns.proofs.gathering.tells.Given as goal

abbrev pub ghost-told_by : goal.ghost-told_by
ghost-told_by g a = a.from.now.told
