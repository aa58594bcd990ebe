use Rattle.std.proofs.Common.{sym, subst}
use Rattle.archive_shelf.specs.Comparing.{IsRight}
use Rattle.vault_turns.specs.Guarded.{Guarded}
use Rattle.vault_turns.specs.History.{is_told, told_book}
use Rattle.vault_turns.proofs.published.Published.store.Goals as goal

pub commit-answer-requires-clause-right : goal.commit-answer-requires-clause-right
commit-answer-requires-clause-right g c = λ payload has.
    subst (λ (k : Guarded _). IsRight (is_told k.history) (told_book k.history) payload c.args.looked) (sym c.catch_up.ensures.kept) (c.requires.right payload has)
