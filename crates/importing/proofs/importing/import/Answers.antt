-- The archive was refused, or the gate's first connection was imported.
use Rattle.std.proofs.Common.{refl, sym, subst, inl, inr}
use Rattle.archive_core.specs.Lasting.{StandsSince}
use Rattle.archive_reopening.specs.Standing.{KeepsOn, StoodOn}
use Rattle.archive_volumes.proofs.ChangeLaws.{DiskLaws}
use Rattle.command.specs.Objects.{objects_of}
use Rattle.command.proofs.SettlingLaws.{opened_is_of}
use Rattle.importing.proofs.ImportLaws.{imports_by}
use Rattle.importing.proofs.importing.import.Given.{Over}
use Rattle.importing.proofs.importing.import.Goals as goal

disk_laws : (g : Over) → DiskLaws g.D.Disk
disk_laws g = record { earlier = g.met.D.Disk.earlier; now_counts = g.met.D.Disk.now_counts; now_only = g.met.D.Disk.now_only }

pub open-requires-clause-uuid : goal.open-requires-clause-uuid
open-requires-clause-uuid g c = rw c.asked_of.ensures c.requires.uuid

pub open-requires-clause-known : goal.open-requires-clause-known
open-requires-clause-known g c = rw c.asked_of.ensures c.requires.known

pub returns-in-Err : goal.returns-in-Err
returns-in-Err g c = inr (rw c.asked_of.ensures at c.in-Err.ensures.refused, refl)

pub stood_on-stood-requires : goal.stood_on-stood-requires
stood_on-stood-requires g c = λ tells.
    subst (λ (disk : _). KeepsOn g.D.Disk disk c.in-Ok.archive) (sym c.told_by-given.ensures) (c.in-Ok.ensures.stood refl tells)

pub import_watched-archive-requires : goal.import_watched-archive-requires
import_watched-archive-requires g c = c.stood_on-stood.ensures.keeps

pub returns : goal.returns
returns g c =
    let left = c.import_watched-archive.result.0 in
    let status = c.import_watched-archive.result.1 in
    let opened = rw c.asked_of.ensures at c.in-Ok.ensures.opened in
    inl (imports_by g.D.Disk g.G.Gate g.O.Sink g.G.Link.Link.tells (disk_laws g) _
    (objects_of c.args.disk c.args.gate.now tt c.args.out.now) (objects_of c.close.result c.import_watched-archive.new.gate tt c.import_watched-archive.new.out)
    c.open.new.out status c.in-Ok.archive left g.K.Known.book
    opened (opened_is_of g.D.Disk c.args.disk _ g.K.Known.book c.requires.known c.in-Ok.archive opened.is) c.close.ensures.disk
    c.in-Ok.ensures.prints_nothing c.close.ensures.near
    (λ tells. record {
      stood = c.stood_on-stood.result.value;
      on = subst (λ (disk : _). StoodOn g.D.Disk disk c.stood_on-stood.result.value) c.told_by-given.ensures (c.stood_on-stood.ensures.on tells);
      began = c.stood_on-stood.ensures.book tells;
      stands = subst (λ (disk : _). StandsSince g.D.Disk c.stood_on-stood.result.value left.book disk) (sym c.close.ensures.disk)
          (c.import_watched-archive.ensures.keeps tells).stands;
    })
    c.import_watched-archive.ensures.first)
