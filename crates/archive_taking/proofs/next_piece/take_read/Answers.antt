use Rattle.std.proofs.Common.{sym, subst}
use Rattle.std.specs.Prelude.{IfNone, IsTrue}
use Rattle.archive_volumes.proofs.ChangeLaws.{DiskLaws}
use Rattle.archive_volumes.specs.Held.{book_of}
use Rattle.archive_core.specs.Holdings.{Holdings}
use Rattle.archive_pieces.specs.PieceParts.{HasNoParts}
use Rattle.archive_taking.proofs.PieceTakenLaws as laws
use Rattle.archive_taking.proofs.next_piece.take_read.Given.{Over}
use Rattle.archive_taking.proofs.next_piece.take_read.Goals as goal

-- what is asked of the disk
disk_laws : (g : Over) → DiskLaws g.D.Disk
disk_laws g = record { earlier = g.met.D.Disk.earlier; now_counts = g.met.D.Disk.now_counts; now_only = g.met.D.Disk.now_only }

pub returns-in_err-found : goal.returns-in_err-found
returns-in_err-found g c =
    laws.memory_exit g.D.Disk (disk_laws g) c.args.archive.now c.args.bytes.now c.from_residual.result c.from_residual.ensures.1

pub returns-in-None : goal.returns-in-None
returns-in-None g c =
    let bytes = c.args.bytes.now in
    let book = book_of c.archive.inside.volumes.held in
    laws.no_parts g.D.Disk (disk_laws g) c.args.archive.now bytes c.requires
    (λ told.
    let here : IsTrue c.archive.inside.told.value = subst (λ (held : Holdings _). IsTrue held.told) (sym c.archive.view_is) told in
    let none : HasNoParts book bytes = subst (λ o. IfNone o (HasNoParts book bytes)) c.in-None.is
    (c.in_ok-found.ensures.none (c.archive.invariant.holds.sound here).namespace_is) in
    subst (λ (held : Holdings _). HasNoParts held.book bytes) c.archive.view_is none)
