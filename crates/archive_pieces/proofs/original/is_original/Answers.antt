use Rattle.std.proofs.Common.{Bool, ℕ, Option, Ok, Some, ap, length, refl, subst, sym, ◌∙◌}
use Rattle.std.specs.Prelude.{IfSome}
use Rattle.std.proofs.lemmas.Option.{slice_get-get_or}
use Rattle.capture.specs.Captures.{captures}
use Rattle.warc_journal.specs.Journals.{disk_of, texts}
use Rattle.archive_reading.proofs.BringLaws.{reads_itself}
use Rattle.archive_volumes.specs.Held.{book_of}
use Rattle.archive_volumes.specs.declared.spot.Spot.{Spot}
use Rattle.archive_pieces.specs.PieceOriginals.{AsksLength, TellsSoLong}
use Rattle.archive_pieces.proofs.PieceOriginalLaws.{answers_by, asks_exit, original_keeps, original_named, same_faults}
use Rattle.archive_pieces.proofs.original.is_original.Goals as goal

pub returns-then-not-is_named-clause-asks : goal.returns-then-not-is_named-clause-asks
returns-then-not-is_named-clause-asks g c told of =
    let spot = c.index-spots-number.result in
    let at = slice_get-get_or c.args.spots.now c.args.number spot c.requires.below ∙ ap (λ (s : Spot). Some s) (sym c.index-spots-number.is) in
    c.is_named.ensures.missed c.if-not-is_named.true
    (original_named (book_of c.args.volumes.now.held) c.requires.group.text c.args.group.now c.requires.group.is c.args.same.now c.requires.same c.args.number
    c.args.spots.now spot at c.requires.readable.are of)

pub returns-in_ok-does-in-Some-clause-asks : goal.returns-in_ok-does-in-Some-clause-asks
returns-in_ok-does-in-Some-clause-asks g c =
    let book = book_of c.args.volumes.now.held in
    let told = c.args.told.now.value in
    let spot = c.index-spots-number.result in
    let at = slice_get-get_or c.args.spots.now c.args.number spot c.requires.below ∙ ap (λ (s : Spot). Some s) (sym c.index-spots-number.is) in
    answers_by book c.requires.group.text c.args.group.now c.requires.group.is c.args.same.now c.requires.same c.args.number
    c.args.spots.now spot at c.requires.readable.are told (texts g.D.Disk c.args.volumes.now.journal) (λ so. (c.requires.readable.placed so).each c.args.number spot at)
    (c.requires.digest spot at) (c.is_named.ensures.met c.if-not-is_named.false) c.in-Some.len
    (subst (λ found. AsksLength told book c.args.number (Ok found)) c.in-Some.is c.in_ok-len.ensures.asks)
    (subst (λ found. IfSome found (TellsSoLong book.namespace c.args.number spot.digest)) c.in-Some.is (c.in_ok-len.ensures.tells spot at))
    c.in_ok-does-in-Some.does c.in_ok-does-in-Some.ensures

pub returns-then-not-is_named-clause-reads : goal.returns-then-not-is_named-clause-reads
returns-then-not-is_named-clause-reads g c = reads_itself g.D.Disk c.args.volumes.now

pub returns-in_err-len-clause-asks : goal.returns-in_err-len-clause-asks
returns-in_err-len-clause-asks g c =
    asks_exit c.args.told.now.value (book_of c.args.volumes.now.held) c.args.group.now c.args.number c.in_err-len.field-0.0 c.from_residual.result
    c.from_residual.ensures.1 c.in_err-len.ensures.asks

pub returns-in_err-len-clause-faults : goal.returns-in_err-len-clause-faults
returns-in_err-len-clause-faults g c =
    let d = g.D.Disk in
    let before = d.faults (disk_of c.args.volumes.now.journal) in
    same_faults (Option ℕ) Bool c.in_err-len.field-0.0 c.from_residual.result before before (d.faults (disk_of c.whole_len.new.volumes.journal))
    c.from_residual.ensures.1 refl c.in_err-len.ensures.faults

pub returns-in-None-clause-asks : goal.returns-in-None-clause-asks
returns-in-None-clause-asks g c told of =
    let book = book_of c.args.volumes.now.held in
    subst (λ found. AsksLength c.args.told.now.value book c.args.number (Ok found)) c.in-None.is c.in_ok-len.ensures.asks told
    (original_keeps book (length (captures book)) c.args.group.now c.args.number of)
