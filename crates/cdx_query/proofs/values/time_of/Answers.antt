use Rattle.std.proofs.lemmas.Bool.{false≢true}
use Rattle.cdx_query.proofs.ValueLemmas.{time_ascii}
use Rattle.cdx_query.proofs.values.time_of.Goals as goal

pub returns-in-None-clause-bad : goal.returns-in-None-clause-bad
returns-in-None-clause-bad c = λ _ names. false≢true (c.in-None.ensures.ascii.1 (time_ascii c.args.digits.items c.texts_have_no_blanks.ensures.digits names))
