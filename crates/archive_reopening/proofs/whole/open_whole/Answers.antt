use Rattle.std.proofs.Common.{Bool, subst, sym}
use Rattle.std.specs.Prelude.{IfOk}
use Rattle.archive_opening.specs.Opening.{IsUsable}
use Rattle.archive_volumes.proofs.ChangeLaws.{DiskLaws}
use Rattle.archive_reopening.specs.Making.{IsMadeOf}
use Rattle.archive_reopening.proofs.MadeLaws.{none_lined, numbered_of}
use Rattle.archive_reopening.proofs.ReopenLaws.{basis_of, no_memory, not_opened, reopened}
use Rattle.archive_reopening.proofs.whole.open_whole.Given.{Over}
use Rattle.archive_reopening.proofs.whole.open_whole.Goals as goal

-- what is asked of the disk
disk_laws : (g : Over) → DiskLaws g.D.Disk
disk_laws g = record { earlier = g.met.D.Disk.earlier; now_counts = g.met.D.Disk.now_counts; now_only = g.met.D.Disk.now_only }

pub archive_of-requires-clause-usable : goal.archive_of-requires-clause-usable
archive_of-requires-clause-usable g c =
    subst (λ (told : Bool). IsUsable g.D.Disk told c.in-Ok.opened) (sym c.told_by-told.ensures) c.in-Ok.ensures.opened.usable

pub archive_of-requires-clause-numbered : goal.archive_of-requires-clause-numbered
archive_of-requires-clause-numbered g c = numbered_of c.in-Ok.opened.gathered c.in-Ok.ensures.opened.entries c.in-Ok.ensures.opened.named

pub archive_of-requires-clause-entries : goal.archive_of-requires-clause-entries
archive_of-requires-clause-entries g c = λ so. c.in-Ok.ensures.opened.entries

pub archive_of-requires-clause-finished : goal.archive_of-requires-clause-finished
archive_of-requires-clause-finished g c = λ so. none_lined g.D.Disk c.in-Ok.opened c.in-Ok.ensures.opened.all_read

pub returns-in-Ok-clause-reopened : goal.returns-in-Ok-clause-reopened
returns-in-Ok-clause-reopened g c =
    reopened g.D.Disk (disk_laws g) c.args.disk c.args.namespace c.args.limits c.in-Ok.opened c.in-Ok.ensures.opened c.archive_of.result
    (subst (λ (told : Bool). IfOk c.archive_of.result (IsMadeOf c.in-Ok.opened c.args.limits told)) c.told_by-told.ensures c.archive_of.ensures.made)

pub returns-in-Ok-clause-refused : goal.returns-in-Ok-clause-refused
returns-in-Ok-clause-refused g c =
    no_memory g.D.Disk (disk_laws g) c.args.disk c.args.namespace c.args.limits g.D.Disk.tells c.in-Ok.opened
    (basis_of g.D.Disk c.args.disk c.args.namespace c.in-Ok.opened c.in-Ok.ensures.opened) c.archive_of.result c.archive_of.ensures.memory

pub returns-in-Err-clause-refused : goal.returns-in-Err-clause-refused
returns-in-Err-clause-refused g c =
    not_opened g.D.Disk (disk_laws g) c.args.disk c.args.namespace c.args.limits c.in-Err.refused c.in-Err.ensures.cause c.in-Err.ensures.damage c.in-Err.ensures.other
    c.in-Err.ensures.given_back c.in-Err.ensures.faults
