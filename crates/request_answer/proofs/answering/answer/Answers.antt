-- A request to an origin is answered, and one to the site.
use Rattle.std.proofs.Common.{sym}
use Rattle.request_answer.proofs.AnswerLaws.{for_origin}
use Rattle.request_answer.proofs.answering.answer.Goals as goal

pub answer_proxied-requires-clause-asked : goal.answer_proxied-requires-clause-asked
answer_proxied-requires-clause-asked g c = for_origin c.args.ask.site.now c.args.ask.asked _ c.in-Origin.is c.requires.asked

pub returns-in-Origin-clause-answers : goal.returns-in-Origin-clause-answers
returns-in-Origin-clause-answers g c t incoming then now closes asked known =
    c.answer_proxied.ensures.answers t c.args.ask.site.now then now incoming closes (rw c.in-Origin.is at asked) known

pub returns-in-Site-clause-answers : goal.returns-in-Site-clause-answers
returns-in-Site-clause-answers g c t incoming then now closes asked known =
    c.answer_visit.ensures.answers g.C.Clock.tells incoming then now _ _ _ closes (rw (c.in-Site.is, sym c.as_slice.ensures.value) at asked) known
