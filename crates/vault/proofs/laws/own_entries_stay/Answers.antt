use Rattle.vault.proofs.OwnLaws.{own_stay}
use Rattle.vault.proofs.laws.own_entries_stay.Goals as goal

pub returns : goal.returns
returns c = own_stay
