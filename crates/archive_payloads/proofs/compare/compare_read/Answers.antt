use Rattle.warc_journal.specs.Journals.{texts}
use Rattle.archive_payloads.proofs.ChooseLaws.{found_same}
use Rattle.archive_payloads.proofs.DamageLaws.{damage_found}
use Rattle.archive_volumes.specs.Spots.{is_cut_form, wire_in}
use Rattle.archive_payloads.proofs.compare.compare_read.Goals as goal

pub returns-clause-compares : goal.returns-clause-compares
returns-clause-compares g c told payload bytes is only =
    c.compare_found.ensures.compares payload bytes is (only c.in_ok-found.found (c.in_ok-found.ensures.payload told))

pub returns-clause-same : goal.returns-clause-same
returns-clause-same g c told payload is =
    let spot = c.args.spot.now in
    found_same c.compare_found.result (is_cut_form spot.form) c.args.kept (wire_in (texts g.D.Disk c.args.volumes.now.journal) spot) payload c.in_ok-found.found
    (c.in_ok-found.ensures.payload told) (c.compare_found.ensures.same payload is)

pub returns-clause-damage : goal.returns-clause-damage
returns-clause-damage g c told =
    let spot = c.args.spot.now in
    damage_found c.compare_found.result (is_cut_form spot.form) c.args.kept (wire_in (texts g.D.Disk c.args.volumes.now.journal) spot) c.in_ok-found.found
    (c.in_ok-found.ensures.payload told) c.compare_found.ensures.damage
