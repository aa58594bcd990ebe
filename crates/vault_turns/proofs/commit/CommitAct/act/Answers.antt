-- What the pass has seen by date the archive shows, so what is referred to goes with it.
use Rattle.std.proofs.Common.{sym, subst}
use Rattle.archive_index.specs.Shown.{numbered}
use Rattle.history_lock.specs.Seen.{Adds}
use Rattle.vault_lists.specs.Items.{shown_in}
use Rattle.vault_turns.specs.Guarded.{Guarded}
use Rattle.vault_turns.specs.History.{by_of, is_told}
use Rattle.vault_turns.specs.Turns.{Commits}
use Rattle.vault_turns.proofs.CommitLaws.{commits_fewer}
use Rattle.vault_turns.proofs.commit.CommitAct.act.Goals as goal

pub has_shown-shown-requires : goal.has_shown-shown-requires
has_shown-shown-requires g c = c.requires.3

pub returns-then-shown : goal.returns-then-shown
returns-then-shown g c =
    let kept = c.args.value.now.kept in
    let taken = c.args.self.taken.now in
    subst (λ (k : Guarded _). Adds by_of c.args.by kept.history k.history
    (λ added. Commits (is_told kept.history) (shown_in c.args.self.seen.now.items) taken kept.history added c.store-answer.result)) (sym c.show.ensures.kept)
    (commits_fewer c.args.by kept.history c.store-answer.new.self.kept.history (is_told kept.history) taken c.store-answer.result (numbered kept.holdings.index)
    (shown_in c.args.self.seen.now.items) (c.has_shown-shown.ensures c.if-shown.true) c.store-answer.ensures)
