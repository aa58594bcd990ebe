use Rattle.vault.proofs.SharingLaws.{shared}
use Rattle.vault.proofs.laws.histories_are_shared_out.Goals as goal

pub returns : goal.returns
returns c = shared
