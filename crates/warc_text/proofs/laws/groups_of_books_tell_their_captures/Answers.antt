use Rattle.warc_text.proofs.GroupLaws as laws
use Rattle.warc_text.proofs.laws.groups_of_books_tell_their_captures.Goals as goal

pub returns : goal.returns
returns c = laws.groups_of_books_tell_their_captures
