use Rattle.archive_shelf.proofs.GainingTexts as laws
use Rattle.archive_shelf.proofs.laws.texts_go_on_behind.Goals as goal

pub returns-clause-volumes : goal.returns-clause-volumes
returns-clause-volumes c =
    laws.volumes_add_their_text c.texts_stay_when_a_book_grows.ensures.sealed c.texts_stay_when_a_book_grows.ensures.last

pub returns-clause-captures : goal.returns-clause-captures
returns-clause-captures c =
    laws.captures_add_their_group c.texts_stay_when_a_book_grows.ensures.sealed c.texts_stay_when_a_book_grows.ensures.last
