use Rattle.std.proofs.Common.{subst}
use Rattle.history_lock.specs.Seen.{Adds}
use Rattle.vault_lists.specs.Items.{brings_of}
use Rattle.vault_turns.specs.Guarded.{Publication}
use Rattle.vault_turns.specs.History.{by_of, is_told}
use Rattle.vault_turns.specs.Turns.{GivesIt}
use Rattle.archive_index.specs.Shown.{numbered}
use Rattle.index_snapshot.specs.Entries.{entries_in}
use Rattle.vault_turns.proofs.ReadLaws.{adds_given}
use Rattle.vault_turns.proofs.PublishLaws.{fault_added, publishes_same}
use Rattle.vault_turns.proofs.published.Published.piece.Goals as goal

pub invariant_of-self : goal.invariant_of-self
invariant_of-self g c = publishes_same c.growth_keeps_captures.ensures.itself c.growth_keeps_captures.ensures.steps c.self.inside.keeping.history
    c.piece-answer.new.self.history c.self.inside.keeping.holdings c.piece-answer.new.self.holdings c.self.inside.publisher c.self.inside.appended c.stands.ensures
    c.stands-2.ensures c.piece-answer.ensures.adds.added c.piece-answer.ensures.adds.is_before_and_added c.self.inside.whole c.self.invariant
    c.piece-answer.ensures.shows
    (fault_added c.self.inside.keeping.history c.stands.ensures.begun _ c.piece-answer.ensures.adds.added c.piece-answer.ensures.adds.done.adds)

pub returns : goal.returns
returns g c =
    let history = c.self.inside.keeping.history in
    let more = numbered c.piece-answer.new.self.holdings.index in
    let fewer = entries_in brings_of c.self.inside.publisher.full in
    subst (λ (p : Publication _). Adds by_of c.args.by p.kept.history c.piece-answer.new.self.history
    (λ added. GivesIt (is_told p.kept.history) fewer c.args.number p.kept.history added c.piece-answer.result)) c.self.view_is
    (adds_given c.args.by history c.piece-answer.new.self.history (is_told history) more fewer
    (λ e has. c.piece-answer.ensures.shows e (c.self.invariant.shown e has)) c.args.number c.piece-answer.result c.piece-answer.ensures.adds)
