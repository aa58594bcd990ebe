use Rattle.std.proofs.Common.{◌≡◌, arith, sym, subst, ◌∙◌}
use Rattle.std.specs.Prelude.{length}
use Rattle.capture.specs.Captures.{captures}
use Rattle.archive_core.specs.Holdings.{Holdings, contents_of}
use Rattle.archive_core.specs.Looking.{RefersThere}
use Rattle.archive_core.proofs.MatchLaws.{its_decoded, its_payload, looks_for, refers_before, refers_cut, wire_whole}
use Rattle.archive_core.proofs.PayloadLaws.{has_one}
use Rattle.archive_core.proofs.ThereLaws.{refers_there}
use Rattle.archive_volumes.proofs.ChangeLaws.{DiskLaws}
use Rattle.archive_core.proofs.archive.Archive.same_of.Given.{Over}
use Rattle.archive_core.proofs.ReadLaws.{looks_itself}
use Rattle.archive_core.proofs.archive.Archive.same_of.Goals as goal

-- what is asked of the disk
disk_laws : (g : Over) → DiskLaws g.D.Disk
disk_laws g = record { earlier = g.met.D.Disk.earlier; now_counts = g.met.D.Disk.now_counts; now_only = g.met.D.Disk.now_only }

pub returns-then-taken-clause-refers : goal.returns-then-taken-clause-refers
returns-then-taken-clause-refers g c =
    refers_cut c.wires_have_one_payload.ensures.whole c.wires_have_one_payload.ensures.cut (contents_of c.args.self.now) c.args.taken.now
    c.requires.fits c.if-taken.true

pub returns-then-looked-count-clause-refers : goal.returns-then-looked-count-clause-refers
returns-then-looked-count-clause-refers g c =
    let many : c.len-count.result ≡ length c.self.inside.spots.items = omega (arith, c.len-count.ensures, c.self.inside.spots.ok.0) in
    let count : c.len-count.result ≡ length (captures c.args.self.now.book) =
    many ∙ subst (λ (held : Holdings _). length c.self.inside.spots.items ≡ length (captures held.book)) c.self.view_is c.self.invariant.spots.count in
    refers_before c.wires_have_one_payload.ensures.whole c.wires_have_one_payload.ensures.cut (contents_of c.args.self.now) c.args.taken.now
    c.requires.fits c.if-taken.false c.args.looked (c.if-looked-count.true ∙ count) c.requires.right

pub same_with-requires-clause-wire : goal.same_with-requires-clause-wire
same_with-requires-clause-wire g c = wire_whole c.args.taken.now c.in_ok-framing.framing c.in_ok-framing.ensures c.if-taken.false c.as_slice.result.now c.as_slice.ensures

pub same_with-requires-clause-digest : goal.same_with-requires-clause-digest
same_with-requires-clause-digest g c payload is =
    c.requires.digest payload (its_payload c.args.taken.now c.in_ok-framing.framing c.in_ok-framing.ensures c.if-taken.false c.as_slice.result.now c.as_slice.ensures payload is)

pub same_with-requires-clause-right : goal.same_with-requires-clause-right
same_with-requires-clause-right g c payload is =
    c.requires.right payload (its_payload c.args.taken.now c.in_ok-framing.framing c.in_ok-framing.ensures c.if-taken.false c.as_slice.result.now c.as_slice.ensures payload is)

pub returns-clause-refers : goal.returns-clause-refers
returns-clause-refers g c =
    let taken = c.args.taken.now in
    let there = has_one c.wires_have_one_payload.ensures.whole c.wires_have_one_payload.ensures.cut taken c.requires.fits in
    looks_for (contents_of c.same_with.new.self) taken there.payload there.has c.if-taken.false c.same_with.result
    (c.same_with.ensures.finds there.payload
    (its_decoded taken c.in_ok-framing.framing c.in_ok-framing.ensures c.if-taken.false c.as_slice.result.now c.as_slice.ensures there.payload there.has))

pub returns-then-looked-count-clause-there : goal.returns-then-looked-count-clause-there
returns-then-looked-count-clause-there g c none =
    subst (RefersThere g.D.Disk c.args.self.now c.args.taken.now) (sym none) (λ payload has. tt)

pub returns-clause-there : goal.returns-clause-there
returns-clause-there g c none =
    refers_there g.D.Disk c.args.self.now c.args.taken.now c.same_with.result
    (λ payload has. c.same_with.ensures.there payload
    (its_decoded c.args.taken.now c.in_ok-framing.framing c.in_ok-framing.ensures c.if-taken.false c.as_slice.result.now c.as_slice.ensures payload has) none)

pub returns-then-taken-clause-looks : goal.returns-then-taken-clause-looks
returns-then-taken-clause-looks g c = looks_itself g.D.Disk (disk_laws g) c.args.self.now

pub returns-then-looked-count-clause-looks : goal.returns-then-looked-count-clause-looks
returns-then-looked-count-clause-looks g c = looks_itself g.D.Disk (disk_laws g) c.args.self.now

pub returns-in_err-framing-clause-looks : goal.returns-in_err-framing-clause-looks
returns-in_err-framing-clause-looks g c = looks_itself g.D.Disk (disk_laws g) c.args.self.now
