use Rattle.std.proofs.Common.{arith}
use Rattle.warc_journal.specs.Journals.{disk_of}
use Rattle.vault_turns.specs.Calm.{crash_left}
use Rattle.vault.proofs.ClosingLaws.{all_members, closed_by_all}
use Rattle.vault.proofs.vault.Vault.close_all.Goals as goal

pub join_all-all-requires-clause-some : goal.join_all-all-requires-clause-some
join_all-all-requires-clause-some g c = omega (arith, c.args.passes.ok.0, c.requires.some, c.requires.members.count)

pub join_all-all-requires-clause-members : goal.join_all-all-requires-clause-members
join_all-all-requires-clause-members g c = all_members g.J.Naming.vault c.args.passes.items c.requires.members

pub returns : goal.returns
returns g c =
    closed_by_all g.J.Naming.vault c.args.passes.items c.requires.members c.requires.some c.join_all-all.result c.join_all-all.ensures.shown
    c.close.result.book c.close.result.limits c.close.result.told (g.D.Disk.faults (disk_of c.close.result.journal)) (crash_left g.D.Disk c.close.result) c.close.ensures
