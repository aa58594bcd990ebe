use Rattle.warc_text.proofs.OneTextLaws.{volumes_have_one_text}
use Rattle.volume_scan.proofs.DamageLaws.{damage_behind_skipped}
use Rattle.volume_scan.proofs.laws.damage_behind_a_skipped_volume_is_of_no_book.Goals as goal

pub returns : goal.returns
returns c = damage_behind_skipped volumes_have_one_text
