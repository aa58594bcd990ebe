use Rattle.warc_text.proofs.OneTextLaws.{volumes_have_one_text}
use Rattle.warc_text.proofs.laws.sound_volumes_have_one_text.Goals as goal

pub returns : goal.returns
returns c = volumes_have_one_text
