-- The laws.
use Rattle.session.proofs.AskedLaws.{not_refused}
use Rattle.session.proofs.CompleteLaws.{passed_on}
use Rattle.session.proofs.FormLaws.{replayed}
use Rattle.session.proofs.laws.requests_are_answered.Goals as goal

pub returns : goal.returns
returns c = record {
  origins = passed_on c.decisions_are_one.ensures.arrivals;
  site = replayed;
  unrefused = not_refused c.decisions_are_one.ensures.firsts;
}
