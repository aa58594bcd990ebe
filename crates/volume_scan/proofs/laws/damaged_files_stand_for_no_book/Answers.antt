use Rattle.warc_text.proofs.OneTextLaws.{volumes_have_one_text}
use Rattle.volume_scan.proofs.DamageLaws.{damaged_stand_for_no_book}
use Rattle.volume_scan.proofs.laws.damaged_files_stand_for_no_book.Goals as goal

pub returns : goal.returns
returns c = damaged_stand_for_no_book volumes_have_one_text
