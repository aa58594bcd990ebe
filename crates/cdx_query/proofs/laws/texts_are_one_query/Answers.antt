use Rattle.cdx_query.proofs.OneQuery.{texts_are_one_query}
use Rattle.cdx_query.proofs.laws.texts_are_one_query.Goals as goal

pub returns : goal.returns
returns c = texts_are_one_query
