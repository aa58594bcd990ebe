-- It is full, or all captures were looked at.
use Rattle.std.proofs.Common.{◌∙◌, List, ℕ, IsTrue, ap, refl, subst, sym}
use Rattle.sha1.specs.Sha1.{sha1}
use Rattle.archive_shelf.specs.Comparing.{IsRight}
use Rattle.warc_text.specs.Sound.{IsSound}
use Rattle.archive_core.specs.Holdings.{contents_of}
use Rattle.archive_core.proofs.ArchiveLaws.{on_each_ok}
use Rattle.archive_core.proofs.CompareLaws.{full_compares, full_steady, looks_after, on_no_ok}
use Rattle.archive_core.proofs.FaultLaws.{full_since}
use Rattle.archive_volumes.proofs.ChangeLaws.{DiskLaws}
use Rattle.archive_core.proofs.archive.Archive.compare.Given.{Over}
use Rattle.archive_core.proofs.ReadLaws.{looks_itself}
use Rattle.archive_core.proofs.archive.Archive.compare.Goals as goal

-- what is asked of the disk
disk_laws : (g : Over) → DiskLaws g.D.Disk
disk_laws g = record { earlier = g.met.D.Disk.earlier; now_counts = g.met.D.Disk.now_counts; now_only = g.met.D.Disk.now_only }

pub returns-in_err-check_room-clause-looks : goal.returns-in_err-check_room-clause-looks
returns-in_err-check_room-clause-looks g c =
    full_compares (contents_of c.args.self.now) c.args.payload.now c.in_err-check_room.field-0.0 c.from_residual.result c.from_residual.ensures.1
    c.in_err-check_room.ensures

pub returns-in_err-check_room-clause-faults : goal.returns-in_err-check_room-clause-faults
returns-in_err-check_room-clause-faults g c =
    full_steady (contents_of c.args.self.now) c.in_err-check_room.field-0.0 c.from_residual.result _ c.from_residual.ensures.1
    c.in_err-check_room.ensures

pub returns-clause-looks : goal.returns-clause-looks
returns-clause-looks g c =
    looks_after g.D.Disk c.args.self.now c.look_on.new.self c.args.payload.now c.look_on.result c.look_on.ensures.only_looks c.in_ok-check_room.ensures
    (c.look_on.ensures.looks c.args.payload.now refl)

pub returns-in_err-check_room-clause-sound : goal.returns-in_err-check_room-clause-sound
returns-in_err-check_room-clause-sound g c =
    on_no_ok c.in_err-check_room.field-0.0 c.from_residual.result (IsTrue c.args.self.now.told → IsSound c.args.self.now.book) c.from_residual.ensures.1

pub returns-clause-sound : goal.returns-clause-sound
returns-clause-sound g c = on_each_ok c.look_on.result (IsTrue c.look_on.new.self.told → IsSound c.look_on.new.self.book) c.look_on.ensures.sound

pub returns-in_err-check_room-clause-since : goal.returns-in_err-check_room-clause-since
returns-in_err-check_room-clause-since g c =
    full_since _ (contents_of c.args.self.now) c.args.looked.upto c.in_err-check_room.field-0.0 c.from_residual.result c.from_residual.ensures.1
    c.in_err-check_room.ensures

pub look_on-requires-clause-digest : goal.look_on-requires-clause-digest
look_on-requires-clause-digest g c payload is = c.requires.digest ∙ ap sha1 (sym is)

pub look_on-requires-clause-right : goal.look_on-requires-clause-right
look_on-requires-clause-right g c payload is =
    subst (λ (p : List ℕ). IsRight c.args.self.now.told c.args.self.now.book p c.args.looked) (sym is) c.requires.right

pub returns-clause-there : goal.returns-clause-there
returns-clause-there g c none = c.look_on.ensures.there c.args.payload.now refl none

pub returns-in_err-check_room-clause-only_looks : goal.returns-in_err-check_room-clause-only_looks
returns-in_err-check_room-clause-only_looks g c = looks_itself g.D.Disk (disk_laws g) c.args.self.now
