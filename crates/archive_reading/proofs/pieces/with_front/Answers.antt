use Rattle.std.proofs.Common.{rules, ◌≡◌, ◌++◌, ℕ, List, sym, ap, subst, arith}
use Rattle.std.proofs.lemmas.Option.{slice_get_within}
use Rattle.warc_text.specs.Records.{info_text}
use Rattle.archive_shelf.specs.Pieces.{IsFirstOf}
use Rattle.archive_reading.proofs.PieceFronts.{spot_there, with_info, without_info}
use Rattle.archive_volumes.specs.Held.{book_of}
use Rattle.archive_reading.proofs.pieces.with_front.Goals as goal

pub born-born-requires : goal.born-born-requires
born-born-requires g c =
    let one = spot_there c.args.spots.now c.args.number c.requires.below in
    let inside = (c.requires.spots.each c.args.number one.0 one.1).inside in
    omega (
      arith,
      slice_get_within (book_of c.args.volumes.now.held).volumes one.0.volume inside.of inside.placed,
      c.volume_at-volume.ensures one.0 one.1,
    )

pub returns-then-not-is_first : goal.returns-then-not-is_first
returns-then-not-is_first g c =
    without_info (book_of c.args.volumes.now.held) c.args.number c.args.group
    (c.is_first.ensures.other c.if-not-is_first.true (book_of c.args.volumes.now.held) c.requires.spots)

pub returns : goal.returns
returns g c =
    let book = book_of c.args.volumes.now.held in
    let one = spot_there c.args.spots.now c.args.number c.requires.below in
    let volume : c.volume_at-volume.result ≡ one.0.volume = c.volume_at-volume.ensures one.0 one.1 in
    let is : IsFirstOf book c.args.number c.volume_at-volume.result =
    subst (IsFirstOf book c.args.number) (sym volume) (c.is_first.ensures.first c.if-not-is_first.false book one.0 c.requires.spots one.1) in
    let info : List ℕ = info_text book.namespace c.volume_at-volume.result c.born-born.result in
    let born : c.born-born.result ≡ is.volume.born = c.born-born.ensures.born is.volume is.placed in
    let whole : c.of.result ≡ info ++ c.args.group = search rules in
    with_info book c.args.number c.volume_at-volume.result is info c.args.group c.of.result
    (ap (info_text book.namespace c.volume_at-volume.result) born) whole
