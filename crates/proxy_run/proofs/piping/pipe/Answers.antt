-- The archive was refused, or the gate's first connection was served over it.
use Rattle.std.proofs.Common.{ℕ, List, Option, refl, sym, subst, inl, inr}
use Rattle.std.specs.Prelude.{IfSome}
use Rattle.archive_reopening.specs.Known.{by_checkpoints}
use Rattle.archive_reopening.specs.Standing.{KeepsOn, StoodOn}
use Rattle.archive_opening.specs.Telling.{MayBeSettled}
use Rattle.command.specs.Objects.{kinds_of, objects_of}
use Rattle.command.specs.Opening.{IsNotOpened}
use Rattle.command.specs.Printing.{printed_as}
use Rattle.command.specs.Settling.{OpensSettled}
use Rattle.command.specs.Words.{asked_of}
use Rattle.warc_text.specs.Ids.{IsUuid}
use Rattle.archive_volumes.proofs.ChangeLaws.{DiskLaws}
use Rattle.proxy_run.proofs.PipeLaws.{pipes_by}
use Rattle.proxy_run.proofs.piping.pipe.Given.{Over}
use Rattle.proxy_run.proofs.piping.pipe.Goals as goal

disk_laws : (g : Over) → DiskLaws g.D.Disk
disk_laws g = record { earlier = g.met.D.Disk.earlier; now_counts = g.met.D.Disk.now_counts; now_only = g.met.D.Disk.now_only }

pub open_and_settle-requires-clause-uuid : goal.open_and_settle-requires-clause-uuid
open_and_settle-requires-clause-uuid g c = subst (λ (asked : Option (List ℕ)). IfSome asked IsUuid) (sym c.asked_of.ensures) c.requires.uuid

pub open_and_settle-requires-clause-known : goal.open_and_settle-requires-clause-known
open_and_settle-requires-clause-known g c =
    subst (λ (asked : Option (List ℕ)). MayBeSettled g.D.Disk c.args.disk asked g.K.Known.book) (sym c.asked_of.ensures) c.requires.known

pub returns-in-Err : goal.returns-in-Err
returns-in-Err g c = inr (record {
  refused = subst (λ (asked : Option (List ℕ)). IsNotOpened g.D.Disk g.O.Sink (by_checkpoints c.args.disk asked g.K.Known.book) c.in-Err.ran.disk
      (printed_as c.args.out.now c.open_and_settle.new.out c.in-Err.ran.status)) c.asked_of.ensures c.in-Err.ensures.refused;
  untouched = refl;
})

pub stood_on-stood-requires : goal.stood_on-stood-requires
stood_on-stood-requires g c = λ tells.
    subst (λ (disk : _). KeepsOn g.D.Disk disk c.in-Ok.archive) (sym c.told_by-given.ensures) (c.in-Ok.ensures.stood tells)

pub serve_watched-archive-requires : goal.serve_watched-archive-requires
serve_watched-archive-requires g c = c.stood_on-stood.ensures.keeps

pub returns : goal.returns
returns g c =
    let left = c.serve_watched-archive.result.0 in
    let said = c.serve_watched-archive.result.1 in
    let stood = c.stood_on-stood.result.value in
    let opened : OpensSettled g.D.Disk (by_checkpoints c.args.disk (asked_of c.args.command) g.K.Known.book) c.in-Ok.archive =
    subst (λ (asked : Option (List ℕ)). OpensSettled g.D.Disk (by_checkpoints c.args.disk asked g.K.Known.book) c.in-Ok.archive) c.asked_of.ensures
    c.in-Ok.ensures.opened in
    inl (pipes_by
    (kinds_of g.D.Disk g.G.Gate g.N.Dialer g.C.Clock g.O.Sink g.G.Link.Link.tells g.N.Link.Link.tells)
    (disk_laws g)
    (objects_of c.args.disk c.args.gate.now c.args.member.now c.args.out.now)
    (objects_of c.settle_and_close.result.disk c.serve_watched-archive.new.gate c.serve_watched-archive.new.member c.open_and_settle.new.out)
    g.K.Known.book (asked_of c.args.command) said c.settle_and_close.result.status c.in-Ok.archive left
    opened c.settle_and_close.ensures.closed c.settle_and_close.ensures.near
    (λ tells. record {
      stood = stood;
      on = subst (λ (disk : _). StoodOn g.D.Disk disk stood) c.told_by-given.ensures (c.stood_on-stood.ensures.on tells);
      began = c.stood_on-stood.ensures.book tells;
      stands = c.settle_and_close.ensures.stands stood tells (c.serve_watched-archive.ensures.keeps tells);
    })
    (λ t u. c.serve_watched-archive.ensures.serves t u) c.serve_watched-archive.ensures.goes_on
    c.serve_watched-archive.ensures.ends c.in-Ok.ensures.prints_nothing)
