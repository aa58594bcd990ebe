use Rattle.warc_text.proofs.OneTextLaws.{volumes_have_one_text}
use Rattle.volume_scan.proofs.EndLaws.{books_end}
use Rattle.volume_scan.proofs.laws.books_end_with_what_was_read.Goals as goal

pub returns : goal.returns
returns c = books_end volumes_have_one_text
