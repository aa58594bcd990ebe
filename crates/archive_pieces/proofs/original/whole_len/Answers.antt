use Rattle.std.proofs.Common.{◌≡◌, ◌∙◌, get_or, subst, sym}
use Rattle.std.specs.Prelude.{IfOk, IfSome}
use Rattle.std.proofs.lemmas.Option.{same_Some, slice_get-get_or}
use Rattle.warc_journal.specs.Journals.{texts}
use Rattle.archive_volumes.specs.Held.{book_of}
use Rattle.archive_volumes.specs.declared.spot.Spot.{Spot}
use Rattle.archive_pieces.specs.PieceOriginals.{TellsSoLong}
use Rattle.archive_pieces.proofs.PieceOriginalLaws.{asks_by, tells_long}
use Rattle.archive_pieces.proofs.original.whole_len.Goals as goal

pub returns-clause-asks : goal.returns-clause-asks
returns-clause-asks g c =
    let spots = c.args.spots.now in
    let number = c.args.number in
    let spot = get_or spots number c.index-spots-number.result in
    asks_by c.args.told.now.value (book_of c.args.volumes.now.held) number (texts g.D.Disk c.args.volumes.now.journal) spot
    c.requires.readable.holds.sound
    (λ told. (c.requires.readable.placed told).each number spot (slice_get-get_or spots number c.index-spots-number.result c.requires.below))
    c.in_ok-read.read c.len_in.result c.in_ok-read.ensures.some c.in_ok-read.ensures.exact c.len_in.ensures

pub returns-clause-tells : goal.returns-clause-tells
returns-clause-tells g c other at =
    let spots = c.args.spots.now in
    let number = c.args.number in
    let namespace = (book_of c.args.volumes.now.held).namespace in
    let spot : Spot = get_or spots number c.index-spots-number.result in
    let is : spot ≡ other = same_Some spot other (sym (slice_get-get_or spots number c.index-spots-number.result c.requires.below) ∙ at) in
    subst (λ (s : Spot). IfOk c.len_in.result (λ found. IfSome found (TellsSoLong namespace number s.digest))) is
    (tells_long namespace number spot.digest c.in_ok-read.read c.len_in.result c.in_ok-read.ensures.some c.len_in.ensures)
