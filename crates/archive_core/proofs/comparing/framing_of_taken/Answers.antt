use Rattle.std.proofs.Common.{Option, Some, None, subst}
use Rattle.capture.specs.declared.framing.Framing.{Framing}
use Rattle.archive_reading.specs.Decoding.{TellsFraming}
use Rattle.archive_core.proofs.MatchLaws.{framed_by, tells_one}
use Rattle.archive_core.proofs.comparing.framing_of_taken.Goals as goal

pub unreachable-requires : goal.unreachable-requires
unreachable-requires c =
    let taken = c.args.taken.now in
    let tells : TellsFraming taken.method taken.head None =
    subst (λ (f : Option Framing). TellsFraming taken.method taken.head f) c.in-None.is (rw c.as_slice-2.ensures at (rw c.as_slice.ensures.value at c.in_ok-framing.ensures)) in
    tells_one c.wires_have_one_payload.ensures.whole c.wires_have_one_payload.ensures.cut taken c.requires.fits tells

pub returns : goal.returns
returns c =
    let taken = c.args.taken.now in
    let tells : TellsFraming taken.method taken.head (Some c.in-Some.framing) =
    subst (λ (f : Option Framing). TellsFraming taken.method taken.head f) c.in-Some.is (rw c.as_slice-2.ensures at (rw c.as_slice.ensures.value at c.in_ok-framing.ensures)) in
    framed_by c.wires_have_one_payload.ensures.whole c.wires_have_one_payload.ensures.cut taken c.requires.fits c.in-Some.framing tells
