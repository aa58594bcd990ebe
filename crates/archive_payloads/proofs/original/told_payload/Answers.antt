use Rattle.std.proofs.Common.{sym, ap, ◌∙◌}
use Rattle.std.proofs.lemmas.Option.{same_Some}
use Rattle.capture.specs.declared.captured.Stored.{Stored}
use Rattle.archive_reading.proofs.BringLaws.{reads_itself}
use Rattle.archive_payloads.proofs.ChooseLaws.{its_bound}
use Rattle.archive_volumes.proofs.GroupLaws.{got}
use Rattle.archive_volumes.specs.Held.{book_of}
use Rattle.archive_payloads.proofs.original.told_payload.Goals as goal

pub bounds-spots-number : goal.bounds-spots-number
bounds-spots-number g c = its_bound (book_of c.args.volumes.now.held) c.args.spots.now c.requires.readable.are c.args.number c.requires.whole

pub returns-clause-right : goal.returns-clause-right
returns-clause-right g c told keeps tells =
    let book = book_of c.args.volumes.now.held in
    let spot = c.index-spots-number.result in
    let below = its_bound book c.args.spots.now c.requires.readable.are c.args.number c.requires.whole in
    let here = got c.args.spots.now c.args.number spot below c.index-spots-number.is in
    let its = c.requires.readable.are.each c.args.number spot here in
    let stored = same_Some its.stored tells.original (sym its.placed ∙ tells.placed) in
    absurd (c.is_told_by.ensures.missed c.if-is_told_by.false (record {
      date = its.date ∙ ap (λ (s : Stored). s.date) stored ∙ sym tells.date_is;
      uri = its.uri ∙ ap (λ (s : Stored). s.uri) stored ∙ sym tells.uri_is;
      id = sym tells.id_is;
    }))

pub returns-clause-reads : goal.returns-clause-reads
returns-clause-reads g c = reads_itself g.D.Disk c.args.volumes.now
