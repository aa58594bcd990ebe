use Rattle.std.proofs.Common.{false, subst}
use Rattle.archive_shelf.specs.Answers.{is_bring_fault}
use Rattle.archive_shelf.specs.Told.{ReadsOn}
use Rattle.vault.specs.Company.{Passing, told_at}
use Rattle.vault.proofs.MemberLaws.{at_shows, bring_digests, bring_member, bring_names, bring_reads}
use Rattle.vault.proofs.shelf.AtShelf.bring.Goals as goal

pub invariant_of-self : goal.invariant_of-self
invariant_of-self g c = (
  c.self.invariant.0,
  bring_member g.J.Naming.vault c.self.inside.pass c.bring.new.pass c.bring.ensures.same c.bring.ensures.shown c.self.invariant.1 c.args.number c.bring.result
      c.bring.ensures.turn,
)

pub returns-clause-reads : goal.returns-clause-reads
returns-clause-reads g c =
    subst (λ (p : Passing). ReadsOn false (is_bring_fault c.bring.result) (told_at p) (told_at c.bring.new.pass)) c.self.view_is
    (bring_reads g.J.Naming.vault c.self.inside.pass c.bring.new.pass c.bring.ensures.same c.bring.ensures.shown c.self.invariant.1 c.args.number c.bring.result
    c.bring.ensures.turn)

pub returns-clause-digests : goal.returns-clause-digests
returns-clause-digests g c =
    bring_digests g.J.Naming.vault c.self.inside.pass c.bring.new.pass c.bring.ensures.same c.bring.ensures.shown c.self.invariant.1 c.args.number c.bring.result
    c.bring.ensures.turn

pub returns-clause-shows : goal.returns-clause-shows
returns-clause-shows g c =
    at_shows g.J.Naming.vault c.bring.new.pass
    (bring_member g.J.Naming.vault c.self.inside.pass c.bring.new.pass c.bring.ensures.same c.bring.ensures.shown c.self.invariant.1 c.args.number c.bring.result
    c.bring.ensures.turn)

pub returns-clause-names : goal.returns-clause-names
returns-clause-names g c =
    bring_names g.J.Naming.vault c.self.inside.pass c.bring.new.pass c.bring.ensures.same c.bring.ensures.shown c.self.invariant.1 c.args.number c.bring.result
    c.bring.ensures.turn
