use Rattle.vault_turns.proofs.PublishLaws.{on_shown, opens_so}
use Rattle.vault_turns.proofs.published.publisher_of.Goals as goal

pub published-requires-clause-fits : goal.published-requires-clause-fits
published-requires-clause-fits g c = opens_so c.args.archive.now.told c.args.archive.now.book c.args.archive.now.index c.in_ok-first.first c.first_item-item.result c.in_ok-first.ensures
    c.first_item-item.ensures.told c.first_item-item.ensures.book c.first_item-item.ensures.entries

pub returns-clause-shown : goal.returns-clause-shown
returns-clause-shown g c =
    on_shown c.args.archive.now c.in_ok-first.first c.first_item-item.result c.in_ok-first.ensures c.first_item-item.ensures.entries c.published.result
    c.published.ensures.publisher
