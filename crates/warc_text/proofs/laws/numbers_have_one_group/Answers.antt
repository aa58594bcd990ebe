use Rattle.capture.proofs.PayloadLaws.{captures_have_one}
use Rattle.warc_text.proofs.OneTextLaws as laws
use Rattle.warc_text.proofs.laws.numbers_have_one_group.Goals as goal

pub returns : goal.returns
returns c = laws.one_group captures_have_one
