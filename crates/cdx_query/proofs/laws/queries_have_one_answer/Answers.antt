use Rattle.cdx_query.proofs.OneAnswer.{queries_have_one_answer}
use Rattle.cdx_query.proofs.laws.queries_have_one_answer.Goals as goal

pub returns : goal.returns
returns c = queries_have_one_answer
