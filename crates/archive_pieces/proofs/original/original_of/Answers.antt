use Rattle.std.proofs.Common.{Ok, ap, subst, ◌∙◌}
use Rattle.warc_journal.specs.Journals.{texts}
use Rattle.revisit_table.specs.Table.{numbers_of}
use Rattle.archive_payloads.proofs.ChooseLaws.{numbers_digest, numbers_whole}
use Rattle.archive_volumes.specs.Held.{book_of}
use Rattle.archive_pieces.specs.PieceOriginals.{ChoosesOriginal}
use Rattle.archive_pieces.proofs.PieceOriginalLaws.{none_at_all}
use Rattle.archive_pieces.proofs.original.original_of.Goals as goal

pub first_original-requires-clause-whole : goal.first_original-requires-clause-whole
first_original-requires-clause-whole g c =
    let digest = c.args.group.now.digest in
    numbers_whole digest c.args.spots.now c.candidates-candidates.result.now
    (c.candidates-candidates.ensures.numbers ∙ ap (numbers_of digest) c.requires.table)

pub first_original-requires-clause-digest : goal.first_original-requires-clause-digest
first_original-requires-clause-digest g c =
    let digest = c.args.group.now.digest in
    numbers_digest digest c.args.spots.now c.candidates-candidates.result.now
    (c.candidates-candidates.ensures.numbers ∙ ap (numbers_of digest) c.requires.table)

pub returns-in-None-clause-finds : goal.returns-in-None-clause-finds
returns-in-None-clause-finds g c told =
    let book = book_of c.args.volumes.now.held in
    let group = c.args.group.now in
    let candidates = c.candidates-candidates.result.now in
    none_at_all book c.args.spots.now (texts g.D.Disk c.args.volumes.now.journal) group c.in-Some.same candidates c.in-Some.is c.requires.readable.are
    (c.requires.readable.placed told) (c.candidates-candidates.ensures.numbers ∙ ap (numbers_of group.digest) c.requires.table)
    (subst (λ found. ChoosesOriginal c.args.told.now.value book group candidates (Ok found)) c.in-None.is c.in_ok-first.ensures.chooses told)
