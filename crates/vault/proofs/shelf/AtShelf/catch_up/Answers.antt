use Rattle.std.proofs.Common.{false, subst}
use Rattle.archive_shelf.proofs.CallLaws.{catches_itself}
use Rattle.archive_shelf.specs.Told.{CatchesUp, ShowsItsBook}
use Rattle.vault.specs.Company.{Passing, told_at}
use Rattle.vault.proofs.MemberLaws.{at_shows, flush_catches, flush_member}
use Rattle.vault.proofs.shelf.AtShelf.catch_up.Goals as goal

pub returns-then-shows_all-clause-catches : goal.returns-then-shows_all-clause-catches
returns-then-shows_all-clause-catches g c = catches_itself false (told_at c.args.self.now)

pub returns-then-shows_all-clause-shows : goal.returns-then-shows_all-clause-shows
returns-then-shows_all-clause-shows g c =
    subst (λ (p : Passing). ShowsItsBook false (told_at p)) c.self.view_is (at_shows g.J.Naming.vault c.self.inside.pass c.self.invariant.1)

pub invariant_of-self : goal.invariant_of-self
invariant_of-self g c = (
  c.self.invariant.0,
  flush_member g.J.Naming.vault c.self.inside.pass c.flush.new.pass c.flush.ensures.same c.flush.ensures.shown c.self.invariant.1 c.flush.ensures.turn,
)

pub returns-clause-catches : goal.returns-clause-catches
returns-clause-catches g c =
    subst (λ (p : Passing). CatchesUp false (told_at p) (told_at c.flush.new.pass)) c.self.view_is
    (flush_catches g.J.Naming.vault c.self.inside.pass c.flush.new.pass c.flush.ensures.same c.flush.ensures.shown c.self.invariant.1 c.flush.ensures.turn
    c.has_entries.ensures)

pub returns-clause-shows : goal.returns-clause-shows
returns-clause-shows g c =
    at_shows g.J.Naming.vault c.flush.new.pass
    (flush_member g.J.Naming.vault c.self.inside.pass c.flush.new.pass c.flush.ensures.same c.flush.ensures.shown c.self.invariant.1 c.flush.ensures.turn)
