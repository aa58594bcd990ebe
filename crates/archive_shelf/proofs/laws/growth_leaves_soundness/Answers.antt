use Rattle.archive_shelf.proofs.EarlierSoundness as earlier
use Rattle.archive_shelf.proofs.laws.growth_leaves_soundness.Goals as goal

pub returns : goal.returns
returns c =
    earlier.growth_leaves_soundness c.growth_keeps_captures.ensures.keeps c.texts_stay_when_a_book_grows.ensures.sealed
    c.texts_stay_when_a_book_grows.ensures.last c.sound_volumes_have_one_text.ensures
