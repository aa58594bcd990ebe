use Rattle.std.proofs.Common.{◌≡◌, Bool, true, not, subst, sym, ap}
use Rattle.archive_shelf.specs.Comparing.{IsRight}
use Rattle.archive_index.specs.Shown.{numbered}
use Rattle.history_lock.specs.Seen.{Adds}
use Rattle.vault_turns.specs.Guarded.{Publication, Publishes}
use Rattle.vault_turns.specs.History.{by_of, is_told, told_book}
use Rattle.vault_turns.specs.Turns.{Commits}
use Rattle.vault_turns.proofs.PublishLaws.{publishes_after}
use Rattle.vault_turns.proofs.published.Published.commit.Goals as goal

pub commit-answer-requires-clause-right : goal.commit-answer-requires-clause-right
commit-answer-requires-clause-right g c = λ payload has.
    subst (λ (p : Publication _). IsRight (is_told p.kept.history) (told_book p.kept.history) payload c.args.looked) (sym c.self.view_is)
    (c.requires.right payload has)

pub invariant_of-self : goal.invariant_of-self
invariant_of-self g c =
    let at_first : c.self.inside.whole ≡ true = subst (λ (p : Publication _). p.whole ≡ true) (sym c.self.view_is) c.requires.whole in
    publishes_after c.growth_keeps_captures.ensures.itself c.growth_keeps_captures.ensures.steps c.self.inside.keeping.history
    c.commit-answer.new.self.history c.self.inside.keeping.holdings c.commit-answer.new.self.holdings c.self.inside.publisher c.self.inside.appended
    c.stands.ensures c.stands-2.ensures c.commit-answer.ensures.adds.added c.commit-answer.ensures.adds.is_before_and_added c.args.taken.now
    (is_told c.self.inside.keeping.history)
    c.commit-answer.result (not c.may_change-changed.result)
    (subst (λ (b : Bool). Publishes (is_told c.self.inside.keeping.history) c.self.inside.keeping.history c.self.inside.keeping.holdings c.self.inside.publisher b c.self.inside.appended)
    at_first c.self.invariant)
    c.commit-answer.ensures.shows c.commit-answer.ensures.adds.done.answers (ap not c.may_change-changed.ensures)

pub returns : goal.returns
returns g c =
    subst (λ (p : Publication _). Adds by_of c.args.by p.kept.history c.commit-answer.new.self.history
    (λ added. Commits (is_told p.kept.history) (numbered p.kept.holdings.index) c.args.taken.now p.kept.history added c.commit-answer.result)) c.self.view_is c.commit-answer.ensures.adds
