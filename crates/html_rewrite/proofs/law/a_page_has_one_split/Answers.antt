-- A page is read in one way.
use Rattle.html_rewrite.proofs.LawLemmas.{split_unique}
use Rattle.html_rewrite.proofs.law.a_page_has_one_split.Goals as goal

pub returns : goal.returns
returns c = split_unique
