-- Refusals of method and address.
use Rattle.std.proofs.Common.{Ok, refl, ap}
use Rattle.archive_shelf.proofs.CallLaws.{goes_on_itself}
use Rattle.capture.specs.declared.refusal.Refusal.TheVariants.{MethodRefused, NotAForm, BadTime}
use Rattle.request_answer.proofs.VisitLaws.{lacking_answers, refusal_answers, served_by, unserved_by}
use Rattle.request_answer.proofs.visiting.answer_visit.Goals as goal

pub returns-then-not-serves-clause-answers : goal.returns-then-not-serves-clause-answers
returns-then-not-serves-clause-answers g c clock_tells =
    refusal_answers g.S.Finder.alone (record { site = c.args.visit.site.now; clock_tells = clock_tells })
    (record { message = c.args.visit.message.now; address = c.args.visit.address.now }) MethodRefused c.asks_for_head-answers_head.result c.args.visit.closes
    (Ok c.refused.result) (g.S.Finder.told c.args.shelf.now) (g.met.S.Finder.earlier c.args.shelf.now)
    c.asks_for_head-answers_head.ensures refl refl (λ faults. unserved_by c.serves.result _ c.serves.ensures c.if-not-serves.true)
    (ap Ok c.refused.ensures.value)

pub returns-in-Err-NotAForm-clause-answers : goal.returns-in-Err-NotAForm-clause-answers
returns-in-Err-NotAForm-clause-answers g c clock_tells =
    refusal_answers g.S.Finder.alone (record { site = c.args.visit.site.now; clock_tells = clock_tells })
    (record { message = c.args.visit.message.now; address = c.args.visit.address.now }) NotAForm c.asks_for_head-answers_head.result c.args.visit.closes
    (Ok c.refused-in-Err-NotAForm.result) (g.S.Finder.told c.args.shelf.now) (g.met.S.Finder.earlier c.args.shelf.now)
    c.asks_for_head-answers_head.ensures refl refl (λ faults. (served_by c.serves.result _ c.serves.ensures c.if-not-serves.false, rw c.in-Err-NotAForm.field-0-is at c.in-Err-NotAForm.ensures.fault))
    (ap Ok c.refused-in-Err-NotAForm.ensures.value)

pub returns-in-Err-BadTime-clause-answers : goal.returns-in-Err-BadTime-clause-answers
returns-in-Err-BadTime-clause-answers g c clock_tells =
    refusal_answers g.S.Finder.alone (record { site = c.args.visit.site.now; clock_tells = clock_tells })
    (record { message = c.args.visit.message.now; address = c.args.visit.address.now }) BadTime c.asks_for_head-answers_head.result c.args.visit.closes
    (Ok c.refused-in-Err-BadTime.result) (g.S.Finder.told c.args.shelf.now) (g.met.S.Finder.earlier c.args.shelf.now)
    c.asks_for_head-answers_head.ensures refl refl (λ faults. (served_by c.serves.result _ c.serves.ensures c.if-not-serves.false, rw c.in-Err-BadTime.field-0-is at c.in-Err-BadTime.ensures.fault))
    (ap Ok c.refused-in-Err-BadTime.ensures.value)

pub returns-in-Err-Memory-clause-answers : goal.returns-in-Err-Memory-clause-answers
returns-in-Err-Memory-clause-answers g c clock_tells =
    lacking_answers g.S.Finder.alone (record { site = c.args.visit.site.now; clock_tells = clock_tells })
    (record { message = c.args.visit.message.now; address = c.args.visit.address.now }) c.args.visit.closes _ (g.S.Finder.told c.args.shelf.now)
    (g.met.S.Finder.earlier c.args.shelf.now)

pub returns-then-not-serves-clause-goes_on : goal.returns-then-not-serves-clause-goes_on
returns-then-not-serves-clause-goes_on g c = goes_on_itself g.S.Finder.alone (g.S.Finder.told c.args.shelf.now)

pub returns-in-Err-NotAForm-clause-goes_on : goal.returns-in-Err-NotAForm-clause-goes_on
returns-in-Err-NotAForm-clause-goes_on g c = goes_on_itself g.S.Finder.alone (g.S.Finder.told c.args.shelf.now)

pub returns-in-Err-BadTime-clause-goes_on : goal.returns-in-Err-BadTime-clause-goes_on
returns-in-Err-BadTime-clause-goes_on g c = goes_on_itself g.S.Finder.alone (g.S.Finder.told c.args.shelf.now)

pub returns-in-Err-Memory-clause-goes_on : goal.returns-in-Err-Memory-clause-goes_on
returns-in-Err-Memory-clause-goes_on g c = goes_on_itself g.S.Finder.alone (g.S.Finder.told c.args.shelf.now)
