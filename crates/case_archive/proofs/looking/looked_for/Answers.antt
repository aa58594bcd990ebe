-- What was found is right of the capture.
use Rattle.case_archive.proofs.LookingLaws.{right_now}
use Rattle.case_archive.proofs.looking.looked_for.Goals as goal

pub returns-in-Ok : goal.returns-in-Ok
returns-in-Ok g c = right_now c.compared_payloads_serve_later.ensures.found c.growth_keeps_captures.ensures.itself _ _
    c.args.prepared.now.taken c.args.prepared.now.payload _ c.in-Ok.looked c.in-Ok.ensures.sound c.requires.has c.as_slice.ensures c.in-Ok.ensures.looks.1
