use Rattle.warc_text.proofs.OneTextLaws.{volumes_have_one_text}
use Rattle.volume_scan.proofs.EndLaws.{books_go_on_with_skipped}
use Rattle.volume_scan.proofs.laws.books_go_on_with_what_is_skipped.Goals as goal

pub returns : goal.returns
returns c = books_go_on_with_skipped volumes_have_one_text
