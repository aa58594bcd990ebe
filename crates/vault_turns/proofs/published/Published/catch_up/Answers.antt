-- The list gains the archive's book.
use Rattle.vault_turns.specs.History.{is_told}
use Rattle.vault_turns.proofs.PublishLaws.{next_fits, next_new, next_publishes}
use Rattle.vault_turns.proofs.published.Published.catch_up.Goals as goal

pub append-requires-clause-new : goal.append-requires-clause-new
append-requires-clause-new g c = next_new c.growth_keeps_captures.ensures.keeps c.growth_keeps_captures.ensures.itself (is_told c.self.inside.keeping.history) c.self.inside.keeping.history
    c.self.inside.keeping.holdings c.self.inside.publisher c.self.inside.whole c.self.inside.appended c.self.invariant c.in_ok-item.item c.in_ok-item.place
    c.in_ok-item.ensures

pub append-requires-clause-fits : goal.append-requires-clause-fits
append-requires-clause-fits g c = next_fits c.growth_keeps_captures.ensures.keeps c.growth_keeps_captures.ensures.itself (is_told c.self.inside.keeping.history) c.self.inside.keeping.history
    c.self.inside.keeping.holdings c.self.inside.publisher c.self.inside.whole c.self.inside.appended c.self.invariant c.in_ok-item.item c.in_ok-item.place
    c.in_ok-item.ensures

pub invariant_of-self-2 : goal.invariant_of-self-2
invariant_of-self-2 g c = next_publishes c.growth_keeps_captures.ensures.keeps c.growth_keeps_captures.ensures.itself (is_told c.self.inside.keeping.history) c.self.inside.keeping.history
    c.self.inside.keeping.holdings c.self.inside.publisher c.self.inside.whole c.self.inside.appended c.self.invariant c.in_ok-item.item c.in_ok-item.place
    c.in_ok-item.ensures
    c.append.new.self c.count-count.result c.in_ok-append.ensures.ok c.count-count.ensures
