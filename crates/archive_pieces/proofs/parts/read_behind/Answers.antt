use Rattle.std.proofs.Common.{subst}
use Rattle.std.specs.Prelude.{IfNone, IfSome}
use Rattle.warc_scan.specs.Groups.{IsGroup}
use Rattle.archive_volumes.specs.Held.{book_of}
use Rattle.archive_pieces.specs.PieceParts.{IsNoGroup, IsNotBegun}
use Rattle.archive_pieces.proofs.PieceByBook.{nothing_behind, reads_group}
use Rattle.archive_pieces.proofs.parts.read_behind.Goals as goal

pub returns-in-Some-2-clause-some : goal.returns-in-Some-2-clause-some
returns-in-Some-2-clause-some c =
    let book = book_of c.args.held.now in
    reads_group book c.args.bytes.now c.args.number c.requires.number c.requires.filled c.in-Some-2.group
    (subst (λ o. IfSome o (IsGroup book.namespace c.args.number c.args.bytes.now)) c.in-Some-2.is c.in_ok-group-in-None.ensures.some)

pub returns-in-None-2-clause-none : goal.returns-in-None-2-clause-none
returns-in-None-2-clause-none c uuid =
    let book = book_of c.args.held.now in
    nothing_behind book c.args.bytes.now c.args.number c.requires.number c.requires.filled c.args.volumes c.requires.volumes
    (subst (λ o. IfNone o (IsNotBegun book.namespace c.args.volumes c.args.number c.args.bytes.now)) c.in-None.is (c.in_ok-begun.ensures.none uuid))
    (subst (λ o. IfNone o (IsNoGroup book.namespace c.args.number c.args.bytes.now)) c.in-None-2.is c.in_ok-group-in-None.ensures.none)
