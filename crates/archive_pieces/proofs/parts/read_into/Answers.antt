use Rattle.std.proofs.Common.{subst}
use Rattle.std.specs.Prelude.{IfNone, IfSome}
use Rattle.archive_volumes.specs.Held.{book_of}
use Rattle.archive_pieces.specs.PieceParts.{IsBegunBy, IsNotBegun}
use Rattle.archive_pieces.proofs.PieceByBook.{born_apart, nothing_into, reads_into}
use Rattle.archive_pieces.proofs.parts.read_into.Goals as goal

pub returns-then-begun-born-clause-some : goal.returns-then-begun-born-clause-some
returns-then-begun-born-clause-some c =
    let book = book_of c.args.held.now in
    reads_into book c.args.bytes.now c.args.number c.requires.number c.args.last c.requires.volumes c.requires.empty c.born-born.result
    c.born-born.ensures.born c.in-Some.begun
    (subst (λ o. IfSome o (IsBegunBy book.namespace c.args.last c.args.number c.args.bytes.now)) c.in-Some.is c.in_ok-begun.ensures.some)
    c.if-begun-born.true

pub returns-else-begun-born-clause-none : goal.returns-else-begun-born-clause-none
returns-else-begun-born-clause-none c uuid =
    let book = book_of c.args.held.now in
    born_apart book c.args.bytes.now c.args.number c.requires.number c.args.last c.requires.volumes c.requires.empty c.born-born.result
    c.born-born.ensures.born uuid c.in-Some.begun
    (subst (λ o. IfSome o (IsBegunBy book.namespace c.args.last c.args.number c.args.bytes.now)) c.in-Some.is c.in_ok-begun.ensures.some)
    c.if-begun-born.false

pub returns-in-None-clause-none : goal.returns-in-None-clause-none
returns-in-None-clause-none c uuid =
    let book = book_of c.args.held.now in
    nothing_into book c.args.bytes.now c.args.number c.requires.number c.args.last c.requires.volumes c.requires.empty c.born-born.result
    c.born-born.ensures.born c.born-born.ensures.in_range
    (subst (λ o. IfNone o (IsNotBegun book.namespace c.args.last c.args.number c.args.bytes.now)) c.in-None.is (c.in_ok-begun.ensures.none uuid))
