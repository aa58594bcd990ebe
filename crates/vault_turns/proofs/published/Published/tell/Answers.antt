use Rattle.std.proofs.Common.{subst}
use Rattle.vault_turns.specs.Guarded.{Publication}
use Rattle.vault_turns.specs.Listing.{IsListed}
use Rattle.vault_turns.specs.History.{is_told}
use Rattle.vault_turns.proofs.PublishLaws.{listed_now}
use Rattle.vault_turns.proofs.published.Published.tell.Goals as goal

pub returns-clause-listed : goal.returns-clause-listed
returns-clause-listed g c =
    subst (λ (p : Publication _). IsListed p.kept.history c.note.result c.self.inside.whole) c.self.view_is
    (listed_now (is_told c.self.inside.keeping.history) c.self.inside.keeping.history c.self.inside.keeping.holdings c.self.inside.publisher c.self.inside.whole c.self.inside.appended
    c.self.invariant c.stands.ensures c.shows_entries.ensures c.note.result c.note.ensures)
