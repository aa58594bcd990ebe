-- What was cut refers to nothing, and what is whole to what was found.
use Rattle.archive_core.specs.Holdings.{contents_of}
use Rattle.archive_core.proofs.MatchLaws.{its_decoded, its_payload, looks_for, refers_cut, wire_whole}
use Rattle.archive_core.proofs.PayloadLaws.{has_one}
use Rattle.archive_core.proofs.ThereLaws.{refers_there}
use Rattle.archive_volumes.proofs.ChangeLaws.{DiskLaws}
use Rattle.archive_core.proofs.archive.Archive.same_by.Given.{Over}
use Rattle.archive_core.proofs.ReadLaws.{looks_itself}
use Rattle.archive_core.proofs.archive.Archive.same_by.Goals as goal

-- what is asked of the disk
disk_laws : (g : Over) → DiskLaws g.D.Disk
disk_laws g = record { earlier = g.met.D.Disk.earlier; now_counts = g.met.D.Disk.now_counts; now_only = g.met.D.Disk.now_only }

pub returns-then-taken-clause-refers : goal.returns-then-taken-clause-refers
returns-then-taken-clause-refers g c =
    refers_cut c.wires_have_one_payload.ensures.whole c.wires_have_one_payload.ensures.cut (contents_of c.args.self.now) c.args.taken.now
    c.requires.fits c.if-taken.true

pub same_with-requires-clause-wire : goal.same_with-requires-clause-wire
same_with-requires-clause-wire g c = wire_whole c.args.taken.now c.args.framing c.requires.framed c.if-taken.false c.as_slice.result.now c.as_slice.ensures

pub same_with-requires-clause-digest : goal.same_with-requires-clause-digest
same_with-requires-clause-digest g c payload is =
    c.requires.digest payload (its_payload c.args.taken.now c.args.framing c.requires.framed c.if-taken.false c.as_slice.result.now c.as_slice.ensures payload is)

pub same_with-requires-clause-right : goal.same_with-requires-clause-right
same_with-requires-clause-right g c payload is =
    c.requires.right payload (its_payload c.args.taken.now c.args.framing c.requires.framed c.if-taken.false c.as_slice.result.now c.as_slice.ensures payload is)

pub returns-clause-refers : goal.returns-clause-refers
returns-clause-refers g c =
    let taken = c.args.taken.now in
    let there = has_one c.wires_have_one_payload.ensures.whole c.wires_have_one_payload.ensures.cut taken c.requires.fits in
    looks_for (contents_of c.same_with.new.self) taken there.payload there.has c.if-taken.false c.same_with.result
    (c.same_with.ensures.finds there.payload
    (its_decoded taken c.args.framing c.requires.framed c.if-taken.false c.as_slice.result.now c.as_slice.ensures there.payload there.has))

pub returns-clause-there : goal.returns-clause-there
returns-clause-there g c none =
    refers_there g.D.Disk c.args.self.now c.args.taken.now c.same_with.result
    (λ payload has. c.same_with.ensures.there payload
    (its_decoded c.args.taken.now c.args.framing c.requires.framed c.if-taken.false c.as_slice.result.now c.as_slice.ensures payload has) none)

pub returns-then-taken-clause-looks : goal.returns-then-taken-clause-looks
returns-then-taken-clause-looks g c = looks_itself g.D.Disk (disk_laws g) c.args.self.now
