use Rattle.warc_text.proofs.GroupLaws.{groups_are_committed}
use Rattle.warc_text.proofs.InfoLaws.{infos_are_committed}
use Rattle.warc_text.proofs.laws.texts_are_committed.Goals as goal

pub returns-clause-infos : goal.returns-clause-infos
returns-clause-infos c = infos_are_committed

pub returns-clause-groups : goal.returns-clause-groups
returns-clause-groups c = groups_are_committed
