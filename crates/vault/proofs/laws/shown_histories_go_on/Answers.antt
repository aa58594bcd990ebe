use Rattle.vault.proofs.SharingLaws.{goes_on, parts_shown}
use Rattle.vault.proofs.laws.shown_histories_go_on.Goals as goal

pub returns-clause-further : goal.returns-clause-further
returns-clause-further c = goes_on

pub returns-clause-parts : goal.returns-clause-parts
returns-clause-parts c = parts_shown
