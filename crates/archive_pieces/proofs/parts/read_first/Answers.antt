use Rattle.std.proofs.Common.{subst, sym}
use Rattle.std.specs.Prelude.{IfNone, IfSome}
use Rattle.archive_volumes.specs.Held.{book_of}
use Rattle.archive_pieces.specs.PieceParts.{IsBegunBy, IsNotBegun}
use Rattle.archive_pieces.proofs.PieceByBook.{may_first, nothing_first, reads_begun}
use Rattle.archive_pieces.proofs.parts.read_first.Goals as goal

pub returns-in-Some-clause-some : goal.returns-in-Some-clause-some
returns-in-Some-clause-some c =
    let book = book_of c.args.held.now in
    reads_begun book c.args.bytes.now c.args.number c.requires.number 0 (sym c.requires.volumes)
    (may_first book c.args.bytes.now c.args.number c.requires.number c.requires.volumes) c.in-Some.begun
    (subst (λ o. IfSome o (IsBegunBy book.namespace 0 c.args.number c.args.bytes.now)) c.in-Some.is c.in_ok-begun.ensures.some)

pub returns-in-None-clause-none : goal.returns-in-None-clause-none
returns-in-None-clause-none c uuid =
    let book = book_of c.args.held.now in
    nothing_first book c.args.bytes.now c.args.number c.requires.number c.requires.volumes
    (subst (λ o. IfNone o (IsNotBegun book.namespace 0 c.args.number c.args.bytes.now)) c.in-None.is (c.in_ok-begun.ensures.none uuid))
