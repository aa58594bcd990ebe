use Rattle.archive_payloads.proofs.FaultLaws.{looked_on, not_done, not_some}
use Rattle.std.proofs.Common.{◌≢◌, ℕ, [], Option, sym, ◌∙◌, refl}
use Rattle.std.proofs.lemmas.Bool.{false≢true}
use Rattle.sha1.specs.Sha1.{sha1}
use Rattle.revisit_table.specs.Table.{numbers_of}
use Rattle.capture.proofs.PayloadLaws.{body_has_payload, captures_have_one}
use Rattle.warc_journal.specs.Journals.{texts, disk_of}
use Rattle.archive_shelf.specs.declared.fault.StoreFault.{StoreFault}
use Rattle.archive_shelf.specs.declared.looked.Looked.{Looked}
use Rattle.archive_reading.proofs.BringLaws.{reads_itself}
use Rattle.archive_payloads.proofs.ChooseLaws.{candidates_whole, chosen_kept, looks_err, looks_exit, right_chosen, right_empty, right_found, since_by}
use Rattle.archive_payloads.proofs.DamageLaws.{damage_exit}
use Rattle.archive_payloads.proofs.SinceLaws.{since_exit}
use Rattle.archive_volumes.specs.Held.{book_of}
use Rattle.archive_volumes.specs.Spots.{whole_from}
use Rattle.archive_payloads.proofs.compare.look_on_wire.Goals as goal

pub choose-requires-clause-whole : goal.choose-requires-clause-whole
choose-requires-clause-whole g c =
    let there = body_has_payload c.args.framing c.args.wire.now c.requires.wire in
    candidates_whole c.args.looked.upto there.0 c.args.spots.now c.args.candidates.now (c.requires.candidates there.0 there.1)

pub returns-then-has_no_bytes-clause-looks : goal.returns-then-has_no_bytes-clause-looks
returns-then-has_no_bytes-clause-looks g c payload is =
    let book = book_of c.args.volumes.now.held in
    let empty = (c.has_no_bytes.ensures payload is).0 c.if-has_no_bytes.true in
    (right_empty c.args.told.now.value book c.args.spots.now c.requires.readable.are payload c.args.looked (c.requires.right payload is) empty, c.requires.readable.are.count)

pub returns-in-Some-clause-looks : goal.returns-in-Some-clause-looks
returns-in-Some-clause-looks g c payload is =
    let book = book_of c.args.volumes.now.held in
    (right_found c.args.told.now.value book c.args.spots.now c.requires.readable.are payload c.args.looked (c.requires.right payload is) c.in-Some.same c.in-Some.is, c.requires.readable.are.count)

pub returns-in_err-same-in-None-clause-looks : goal.returns-in_err-same-in-None-clause-looks
returns-in_err-same-in-None-clause-looks g c payload is =
    let book = book_of c.args.volumes.now.held in
    let fault : StoreFault = c.in_err-same-in-None.field-0.0 in
    let whole = candidates_whole c.args.looked.upto payload c.args.spots.now c.args.candidates.now (c.requires.candidates payload is) in
    looks_exit c.args.told.now.value book payload fault c.from_residual.result c.from_residual.ensures.1
    (looks_err c.args.told.now.value book c.args.spots.now c.requires.readable.are c.args.candidates.now payload whole fault (c.in_err-same-in-None.ensures.chooses payload is))

pub returns-in_err-same-in-None-clause-since : goal.returns-in_err-same-in-None-clause-since
returns-in_err-same-in-None-clause-since g c =
    let there = body_has_payload c.args.framing c.args.wire.now c.requires.wire in
    let payload = there.0 in
    let is = there.1 in
    let fault : StoreFault = c.in_err-same-in-None.field-0.0 in
    since_exit (Option ℕ) _ c.args.looked.upto fault c.from_residual.result c.from_residual.ensures.1
    (since_by c.args.told.now.value (book_of c.args.volumes.now.held) c.args.looked.upto (numbers_of (sha1 payload) (whole_from 0 c.args.spots.now))
    c.args.candidates.now payload (c.requires.candidates payload is) fault (c.in_err-same-in-None.ensures.chooses payload is))

pub returns-in_ok-same-in-None-clause-looks : goal.returns-in_ok-same-in-None-clause-looks
returns-in_ok-same-in-None-clause-looks g c payload is =
    let book = book_of c.args.volumes.now.held in
    let some : payload ≢ [] = λ none. false≢true (sym c.if-has_no_bytes.false ∙ (c.has_no_bytes.ensures payload is).1 none) in (
      right_chosen c.args.told.now.value book c.args.spots.now c.requires.readable.are payload c.args.looked (c.requires.right payload is)
          captures_have_one (texts g.D.Disk c.args.volumes.now.journal) c.requires.readable.placed c.requires.readable.holds.sound
          c.args.candidates.now (c.requires.candidates payload is) c.requires.rising some c.in-None.is c.in_ok-same-in-None.same (c.in_ok-same-in-None.ensures.chooses payload is),
      c.requires.readable.are.count,
    )

pub returns-in_ok-same-in-None-clause-digest : goal.returns-in_ok-same-in-None-clause-digest
returns-in_ok-same-in-None-clause-digest g c payload is _ =
    chosen_kept c.args.told.now.value (book_of c.args.volumes.now.held) c.args.looked.upto payload c.args.spots.now c.args.candidates.now (c.requires.candidates payload is)
    c.in_ok-same-in-None.same (c.in_ok-same-in-None.ensures.chooses payload is)

pub returns-then-has_no_bytes-clause-reads : goal.returns-then-has_no_bytes-clause-reads
returns-then-has_no_bytes-clause-reads g c = reads_itself g.D.Disk c.args.volumes.now

pub returns-in-Some-clause-reads : goal.returns-in-Some-clause-reads
returns-in-Some-clause-reads g c = reads_itself g.D.Disk c.args.volumes.now

pub returns-in_err-same-in-None-clause-damage : goal.returns-in_err-same-in-None-clause-damage
returns-in_err-same-in-None-clause-damage g c =
    damage_exit Looked g.D.Disk.tells (texts g.D.Disk c.args.volumes.now.journal) (book_of c.args.volumes.now.held).namespace c.args.spots.now
    c.in_err-same-in-None.field-0.0 c.from_residual.result c.from_residual.ensures.1 c.in_err-same-in-None.ensures.damage

pub returns-then-has_no_bytes-clause-passes : goal.returns-then-has_no_bytes-clause-passes
returns-then-has_no_bytes-clause-passes g c payload is some _ = absurd (some ((c.has_no_bytes.ensures payload is).0 c.if-has_no_bytes.true))

-- ---- what is asked, and what stays at each exit

pub choose-requires-clause-readable : goal.choose-requires-clause-readable
choose-requires-clause-readable g c = c.requires.readable

pub choose-requires-clause-made : goal.choose-requires-clause-made
choose-requires-clause-made g c = c.requires.made

pub returns-then-has_no_bytes-clause-faults : goal.returns-then-has_no_bytes-clause-faults
returns-then-has_no_bytes-clause-faults g c = refl

pub returns-in-Some-clause-faults : goal.returns-in-Some-clause-faults
returns-in-Some-clause-faults g c = refl

pub returns-in-Some-clause-there : goal.returns-in-Some-clause-there
returns-in-Some-clause-there g c tells payload is none =
    absurd (not_some c.in-Some.same (sym c.in-Some.is ∙ none))

pub returns-in-Some-clause-digest : goal.returns-in-Some-clause-digest
returns-in-Some-clause-digest g c payload is none =
    absurd (not_some c.in-Some.same (sym c.in-Some.is ∙ none))

pub returns-in-Some-clause-passes : goal.returns-in-Some-clause-passes
returns-in-Some-clause-passes g c payload is some none =
    absurd (not_some c.in-Some.same (sym c.in-Some.is ∙ none))

pub returns-in_err-same-in-None-clause-there : goal.returns-in_err-same-in-None-clause-there
returns-in_err-same-in-None-clause-there g c tells payload is none =
    not_done _ c.from_residual.result c.from_residual.ensures.0

pub returns-in_err-same-in-None-clause-digest : goal.returns-in_err-same-in-None-clause-digest
returns-in_err-same-in-None-clause-digest g c payload is none =
    not_done _ c.from_residual.result c.from_residual.ensures.0

pub returns-in_err-same-in-None-clause-passes : goal.returns-in_err-same-in-None-clause-passes
returns-in_err-same-in-None-clause-passes g c payload is some none =
    not_done _ c.from_residual.result c.from_residual.ensures.0

pub returns-in_err-same-in-None-clause-reads : goal.returns-in_err-same-in-None-clause-reads
returns-in_err-same-in-None-clause-reads g c = c.choose.ensures.reads

pub returns-in_err-same-in-None-clause-faults : goal.returns-in_err-same-in-None-clause-faults
returns-in_err-same-in-None-clause-faults g c =
    looked_on (Option ℕ) Looked (g.D.Disk.faults (disk_of c.args.volumes.now.journal)) (g.D.Disk.faults (disk_of c.choose.new.volumes.journal)) c.in_err-same-in-None.field-0.0 c.from_residual.result c.from_residual.ensures.1 c.in_err-same-in-None.ensures.faults

pub returns-in_ok-same-in-None-clause-there : goal.returns-in_ok-same-in-None-clause-there
returns-in_ok-same-in-None-clause-there g c tells payload is none = c.in_ok-same-in-None.ensures.there tells payload is

pub returns-in_ok-same-in-None-clause-passes : goal.returns-in_ok-same-in-None-clause-passes
returns-in_ok-same-in-None-clause-passes g c payload is some none = c.in_ok-same-in-None.ensures.passes payload is

pub returns-in_ok-same-in-None-clause-reads : goal.returns-in_ok-same-in-None-clause-reads
returns-in_ok-same-in-None-clause-reads g c = c.choose.ensures.reads

pub returns-in_ok-same-in-None-clause-faults : goal.returns-in_ok-same-in-None-clause-faults
returns-in_ok-same-in-None-clause-faults g c = c.in_ok-same-in-None.ensures.faults
