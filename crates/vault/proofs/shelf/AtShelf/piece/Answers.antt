use Rattle.std.proofs.Common.{false, subst}
use Rattle.archive_shelf.specs.Answers.{is_bring_fault}
use Rattle.archive_shelf.specs.Told.{ReadsOn}
use Rattle.vault.specs.Company.{Passing, told_at}
use Rattle.vault.proofs.MemberLaws.{at_shows, piece_digests, piece_member, piece_reads}
use Rattle.vault.proofs.shelf.AtShelf.piece.Goals as goal

pub invariant_of-self : goal.invariant_of-self
invariant_of-self g c = (
  c.self.invariant.0,
  piece_member g.J.Naming.vault c.self.inside.pass c.piece.new.pass c.piece.ensures.same c.piece.ensures.shown c.self.invariant.1 c.args.number c.piece.result
      c.piece.ensures.turn,
)

pub returns-clause-reads : goal.returns-clause-reads
returns-clause-reads g c =
    subst (λ (p : Passing). ReadsOn false (is_bring_fault c.piece.result) (told_at p) (told_at c.piece.new.pass)) c.self.view_is
    (piece_reads g.J.Naming.vault c.self.inside.pass c.piece.new.pass c.piece.ensures.same c.piece.ensures.shown c.self.invariant.1 c.args.number c.piece.result
    c.piece.ensures.turn)

pub returns-clause-digests : goal.returns-clause-digests
returns-clause-digests g c =
    piece_digests g.J.Naming.vault c.self.inside.pass c.piece.new.pass c.piece.ensures.same c.piece.ensures.shown c.self.invariant.1 c.args.number c.piece.result
    c.piece.ensures.turn

pub returns-clause-shows : goal.returns-clause-shows
returns-clause-shows g c =
    at_shows g.J.Naming.vault c.piece.new.pass
    (piece_member g.J.Naming.vault c.self.inside.pass c.piece.new.pass c.piece.ensures.same c.piece.ensures.shown c.self.invariant.1 c.args.number c.piece.result
    c.piece.ensures.turn)
