use Rattle.archive_shelf.proofs.GainingSoundness as gaining
use Rattle.archive_shelf.proofs.StoringSoundness as storing
use Rattle.archive_shelf.proofs.laws.storing_keeps_soundness.Goals as goal

pub returns-clause-volumes : goal.returns-clause-volumes
returns-clause-volumes c =
    gaining.volumes_keep_soundness c.texts_stay_when_a_book_grows.ensures.sealed c.texts_stay_when_a_book_grows.ensures.last
    c.numbers_have_one_group.ensures c.sound_volumes_have_one_text.ensures

pub returns-clause-captures : goal.returns-clause-captures
returns-clause-captures c =
    storing.storing_keeps_soundness c.texts_stay_when_a_book_grows.ensures.sealed c.texts_stay_when_a_book_grows.ensures.last
    c.numbers_have_one_group.ensures c.sound_volumes_have_one_text.ensures
