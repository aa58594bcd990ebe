use Rattle.html_rewrite.proofs.SomeSplit.{split_of}
use Rattle.html_rewrite.proofs.law.a_page_has_a_split.Goals as goal

pub returns : goal.returns
returns c = split_of
