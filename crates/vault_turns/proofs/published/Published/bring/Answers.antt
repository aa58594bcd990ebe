use Rattle.std.proofs.Common.{subst}
use Rattle.history_lock.specs.Seen.{Adds}
use Rattle.vault_lists.specs.Items.{brings_of}
use Rattle.vault_turns.specs.Guarded.{Publication}
use Rattle.vault_turns.specs.History.{by_of, is_told}
use Rattle.vault_turns.specs.Turns.{BringsIt}
use Rattle.archive_index.specs.Shown.{numbered}
use Rattle.index_snapshot.specs.Entries.{entries_in}
use Rattle.vault_turns.proofs.ReadLaws.{adds_brought}
use Rattle.vault_turns.proofs.PublishLaws.{fault_added, publishes_same}
use Rattle.vault_turns.proofs.published.Published.bring.Goals as goal

pub invariant_of-self : goal.invariant_of-self
invariant_of-self g c = publishes_same c.growth_keeps_captures.ensures.itself c.growth_keeps_captures.ensures.steps c.self.inside.keeping.history
    c.bring-answer.new.self.history c.self.inside.keeping.holdings c.bring-answer.new.self.holdings c.self.inside.publisher c.self.inside.appended c.stands.ensures
    c.stands-2.ensures c.bring-answer.ensures.adds.added c.bring-answer.ensures.adds.is_before_and_added c.self.inside.whole c.self.invariant
    c.bring-answer.ensures.shows
    (fault_added c.self.inside.keeping.history c.stands.ensures.begun _ c.bring-answer.ensures.adds.added c.bring-answer.ensures.adds.done.adds)

pub returns : goal.returns
returns g c =
    let history = c.self.inside.keeping.history in
    let more = numbered c.bring-answer.new.self.holdings.index in
    let fewer = entries_in brings_of c.self.inside.publisher.full in
    subst (λ (p : Publication _). Adds by_of c.args.by p.kept.history c.bring-answer.new.self.history
    (λ added. BringsIt (is_told p.kept.history) fewer c.args.number p.kept.history added c.bring-answer.result)) c.self.view_is
    (adds_brought c.args.by history c.bring-answer.new.self.history (is_told history) more fewer
    (λ e has. c.bring-answer.ensures.shows e (c.self.invariant.shown e has)) c.args.number c.bring-answer.result c.bring-answer.ensures.adds)
