use Rattle.std.proofs.Common.{false, subst}
use Rattle.archive_shelf.specs.Told.{StoresOn}
use Rattle.vault_lists.specs.Items.{shown_in}
use Rattle.vault.specs.Company.{Passing, told_at}
use Rattle.vault.proofs.MemberLaws.{at_shows, at_stores, member_stored}
use Rattle.vault.proofs.shelf.AtShelf.store.Goals as goal

pub invariant_of-self : goal.invariant_of-self
invariant_of-self g c = (
  c.self.invariant.0,
  member_stored g.J.Naming.vault c.self.inside.pass.known c.store.new.pass.known c.store.ensures.same c.self.invariant.1
      (shown_in c.store.new.pass.shown.items) c.args.taken.now c.store.result c.store.ensures.stores,
)

pub returns-clause-stores : goal.returns-clause-stores
returns-clause-stores g c =
    subst (λ (p : Passing). StoresOn false c.args.taken.now (told_at p) (told_at c.store.new.pass) c.store.result) c.self.view_is
    (at_stores g.J.Naming.vault c.self.inside.pass c.store.new.pass c.store.ensures.same c.store.ensures.shown c.self.invariant.1 c.args.taken.now c.store.result
    c.store.ensures.stores)

pub returns-clause-shows : goal.returns-clause-shows
returns-clause-shows g c =
    at_shows g.J.Naming.vault c.store.new.pass
    (member_stored g.J.Naming.vault c.self.inside.pass.known c.store.new.pass.known c.store.ensures.same c.self.invariant.1
    (shown_in c.store.new.pass.shown.items) c.args.taken.now c.store.result c.store.ensures.stores)
