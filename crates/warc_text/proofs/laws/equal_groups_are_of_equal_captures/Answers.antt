use Rattle.warc_text.proofs.EqualLaws as laws
use Rattle.warc_text.proofs.laws.equal_groups_are_of_equal_captures.Goals as goal

pub returns : goal.returns
returns c = laws.equal_groups_are_of_equal_captures
