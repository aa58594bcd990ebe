-- The archive was refused, or it followed its source.
use Rattle.std.proofs.Common.{ℕ, List, Option, refl, sym, subst, inl}
use Rattle.std.specs.Prelude.{IfSome}
use Rattle.archive_reopening.specs.Known.{by_checkpoints}
use Rattle.archive_opening.specs.Telling.{MayBeSettled}
use Rattle.archive_volumes.proofs.ChangeLaws.{DiskLaws}
use Rattle.command.proofs.SettlingLaws.{opened_is_of}
use Rattle.command.specs.Objects.{objects_of}
use Rattle.command.specs.Opening.{IsOpened}
use Rattle.command.specs.Words.{asked_of}
use Rattle.warc_text.specs.Ids.{IsUuid}
use Rattle.following.proofs.FollowsLaws.{follows_by}
use Rattle.following.proofs.following.follow.Given.{Over}
use Rattle.following.proofs.following.follow.Goals as goal

disk_laws : (g : Over) → DiskLaws g.D.Disk
disk_laws g = record { earlier = g.met.D.Disk.earlier; now_counts = g.met.D.Disk.now_counts; now_only = g.met.D.Disk.now_only }

pub returns : goal.returns
returns g c =
    let asked = asked_of c.args.command in
    let opened : IsOpened g.D.Disk (by_checkpoints c.args.disk asked g.K.Known.book) c.in-Ok.archive =
    subst (λ (a : Option (List ℕ)). IsOpened g.D.Disk (by_checkpoints c.args.disk a g.K.Known.book) c.in-Ok.archive) c.asked_of.ensures
    c.in-Ok.ensures.opened in
    inl (follows_by g.D.Disk g.N.Dialer g.O.Sink g.N.Link.Link.tells g.K.Known.book (disk_laws g) asked c.args.site.now (objects_of c.args.disk tt c.args.member.now c.args.out.now)
    (objects_of c.close.result tt _ c.follow_site-status.new.out) c.open.new.out c.follow_site-status.result c.in-Ok.archive c.follow_site-status.new.archive
    opened (opened_is_of g.D.Disk c.args.disk asked g.K.Known.book c.requires.known c.in-Ok.archive opened.is) (c.in-Ok.ensures.stood refl) c.close.ensures.disk
    c.in-Ok.ensures.prints_nothing c.close.ensures.near c.follow_site-status.ensures refl)

pub open-requires-clause-uuid : goal.open-requires-clause-uuid
open-requires-clause-uuid g c = subst (λ (asked : Option (List ℕ)). IfSome asked IsUuid) (sym c.asked_of.ensures) c.requires.uuid

pub open-requires-clause-known : goal.open-requires-clause-known
open-requires-clause-known g c =
    subst (λ (asked : Option (List ℕ)). MayBeSettled g.D.Disk c.args.disk asked g.K.Known.book) (sym c.asked_of.ensures) c.requires.known
