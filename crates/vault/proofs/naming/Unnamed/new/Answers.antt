use Rattle.std.proofs.Common.{ap}
use Rattle.warc_journal.specs.Journals.{disk_of}
use Rattle.vault.specs.Members.{VaultName}
use Rattle.vault.proofs.MemberLaws.{new_members, new_name}
use Rattle.vault.proofs.naming.Unnamed.new.Goals as goal

pub invariant_of-result : goal.invariant_of-result
invariant_of-result g c =
    new_members c.args.archive.told c.args.sure.value (g.D.Disk.faults (disk_of c.args.archive.journal)) c.in-Ok.vault c.args.passes c.args.archive.book c.args.archive.limits c.shows_its_book.ensures.shows.consistent.sound
    c.requires.passes.0 c.in-Ok.passes.items c.in-Ok.ensures.count c.in-Ok.ensures.each

pub returns-in-Ok-clause-passes : goal.returns-in-Ok-clause-passes
returns-in-Ok-clause-passes g c =
    ap (λ (v : VaultName). v.passes) (new_name c.args.archive.told c.args.sure.value (g.D.Disk.faults (disk_of c.args.archive.journal)) c.in-Ok.vault c.args.passes c.args.archive.book c.args.archive.limits
    c.shows_its_book.ensures.shows.consistent.sound c.requires.passes.0 c.in-Ok.passes.items c.in-Ok.ensures.count c.in-Ok.ensures.each)

pub returns-in-Ok-clause-archive : goal.returns-in-Ok-clause-archive
returns-in-Ok-clause-archive g c =
    let name = new_name c.args.archive.told c.args.sure.value (g.D.Disk.faults (disk_of c.args.archive.journal)) c.in-Ok.vault c.args.passes c.args.archive.book c.args.archive.limits
    c.shows_its_book.ensures.shows.consistent.sound c.requires.passes.0 c.in-Ok.passes.items c.in-Ok.ensures.count c.in-Ok.ensures.each in
    (ap (λ (v : VaultName). v.book) name, ap (λ (v : VaultName). v.limits) name, ap (λ (v : VaultName). v.tells) name, ap (λ (v : VaultName). v.faults) name)

pub returns-in-Ok-clause-sure : goal.returns-in-Ok-clause-sure
returns-in-Ok-clause-sure g c =
    ap (λ (v : VaultName). v.sure) (new_name c.args.archive.told c.args.sure.value (g.D.Disk.faults (disk_of c.args.archive.journal)) c.in-Ok.vault c.args.passes c.args.archive.book c.args.archive.limits
    c.shows_its_book.ensures.shows.consistent.sound c.requires.passes.0 c.in-Ok.passes.items c.in-Ok.ensures.count c.in-Ok.ensures.each)
