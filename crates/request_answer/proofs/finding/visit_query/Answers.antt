-- A text that is a query, or isn't.
use Rattle.std.proofs.Common.{Ok, Err, refl, ap}
use Rattle.archive_shelf.proofs.CallLaws.{goes_on_itself}
use Rattle.capture.specs.declared.refusal.Refusal.TheVariants.{BadQuery}
use Rattle.request_answer.proofs.VisitLaws.{lacking_answers, refusal_answers}
use Rattle.request_answer.proofs.finding.visit_query.Goals as goal

pub answer_query-requires : goal.answer_query-requires
answer_query-requires g c = record { asks = (c.args.text.now, c.requires.asks, c.in-Ok.ensures.query) }

pub returns-in-Err-BadQuery-clause-answers : goal.returns-in-Err-BadQuery-clause-answers
returns-in-Err-BadQuery-clause-answers g c clock_tells =
    refusal_answers g.S.Finder.alone (record { site = c.args.visit.site.now; clock_tells = clock_tells })
    (record { message = c.args.visit.message.now; address = c.args.visit.address.now }) BadQuery c.asks_for_head-answers_head.result c.args.visit.closes
    (Ok c.refused.result) (g.S.Finder.told c.args.shelf.now) (g.met.S.Finder.earlier c.args.shelf.now)
    c.asks_for_head-answers_head.ensures refl refl (λ faults. (c.args.text.now, c.requires.asks, c.in-Err-BadQuery.ensures.bad (ap Err c.in-Err-BadQuery.field-0-is)))
    (ap Ok c.refused.ensures.value)

pub returns-in-Err-Memory-clause-answers : goal.returns-in-Err-Memory-clause-answers
returns-in-Err-Memory-clause-answers g c clock_tells =
    lacking_answers g.S.Finder.alone (record { site = c.args.visit.site.now; clock_tells = clock_tells })
    (record { message = c.args.visit.message.now; address = c.args.visit.address.now }) c.args.visit.closes _ (g.S.Finder.told c.args.shelf.now)
    (g.met.S.Finder.earlier c.args.shelf.now)

pub returns-in-Err-BadQuery-clause-goes_on : goal.returns-in-Err-BadQuery-clause-goes_on
returns-in-Err-BadQuery-clause-goes_on g c = goes_on_itself g.S.Finder.alone (g.S.Finder.told c.args.shelf.now)

pub returns-in-Err-Memory-clause-goes_on : goal.returns-in-Err-Memory-clause-goes_on
returns-in-Err-Memory-clause-goes_on g c = goes_on_itself g.S.Finder.alone (g.S.Finder.told c.args.shelf.now)
