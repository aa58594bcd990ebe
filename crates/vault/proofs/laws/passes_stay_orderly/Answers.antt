use Rattle.vault.proofs.OrderlyLaws.{new_are_orderly, reads_keep, stores_keep}
use Rattle.vault.proofs.laws.passes_stay_orderly.Goals as goal

pub returns-clause-made : goal.returns-clause-made
returns-clause-made c = new_are_orderly

pub returns-clause-stores : goal.returns-clause-stores
returns-clause-stores c = stores_keep

pub returns-clause-reads : goal.returns-clause-reads
returns-clause-reads c = reads_keep
