use Rattle.std.proofs.Common.{List, subst, sym, ℕ}
use Rattle.capture.specs.Message.{IsResponseHeadText}
use Rattle.archive_index.proofs.IndexLaws.{behind_at}
use Rattle.archive_volumes.specs.Held.{stored_in}
use Rattle.archive_index.proofs.index.enter_entry.Goals as goal

pub enter-requires-clause-behind : goal.enter-requires-clause-behind
enter-requires-clause-behind c =
    behind_at (stored_in c.args.ready.now.stored) c.requires.head.0 c.args.at c.args.index.now c.in_ok-entry.entry
    (c.in_ok-entry.ensures c.requires.head.0 c.requires.head.1) c.requires.behind

pub returns-clause-entered : goal.returns-clause-entered
returns-clause-entered c = record {
  entry = c.in_ok-entry.entry;
  enters = λ h reads. c.in_ok-entry.ensures h (subst (λ (t : List ℕ). IsResponseHeadText t h) (sym c.requires.is) reads);
  is = c.in_ok-enter.ensures.entered;
}
