use Rattle.std.proofs.Common.{subst}
use Rattle.history_lock.specs.Seen.{Adds}
use Rattle.vault_turns.specs.Guarded.{Publication}
use Rattle.vault_turns.specs.History.{by_of, is_told}
use Rattle.vault_turns.specs.Turns.{Compares}
use Rattle.vault_turns.proofs.PublishLaws.{fault_added, publishes_same}
use Rattle.vault_turns.proofs.published.Published.compare.Goals as goal

pub invariant_of-self : goal.invariant_of-self
invariant_of-self g c = publishes_same c.growth_keeps_captures.ensures.itself c.growth_keeps_captures.ensures.steps c.self.inside.keeping.history
    c.compare-answer.new.self.history c.self.inside.keeping.holdings c.compare-answer.new.self.holdings c.self.inside.publisher c.self.inside.appended c.stands.ensures
    c.stands-2.ensures c.compare-answer.ensures.adds.added c.compare-answer.ensures.adds.is_before_and_added c.self.inside.whole c.self.invariant
    c.compare-answer.ensures.shows
    (fault_added c.self.inside.keeping.history c.stands.ensures.begun _ c.compare-answer.ensures.adds.added c.compare-answer.ensures.adds.done.adds)

pub returns : goal.returns
returns g c =
    subst (λ (p : Publication _). Adds by_of c.args.by p.kept.history c.compare-answer.new.self.history
    (λ added. Compares (is_told p.kept.history) c.args.payload.now p.kept.history added c.compare-answer.result)) c.self.view_is c.compare-answer.ensures.adds
