use Rattle.vault.proofs.MemberLaws.{members_all}
use Rattle.test_vault.proofs.passes.begun.Goals as goal

pub returns-clause-passes : goal.returns-clause-passes
returns-clause-passes g c = members_all g.J.Naming.vault c.named.result.1.items c.named.ensures.passes
