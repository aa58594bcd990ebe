-- A gate whose field names a time, or doesn't.
use Rattle.std.proofs.Common.{Ok, refl, ap}
use Rattle.std.specs.Prelude.{map}
use Rattle.archive_shelf.proofs.CallLaws.{goes_on_itself}
use Rattle.capture.specs.declared.refusal.Refusal.TheVariants.{BadAcceptDatetime}
use Rattle.http_head.specs.Heads.{named_value}
use Rattle.request_answer.proofs.FoundLaws.{none_sought}
use Rattle.request_answer.proofs.VisitLaws.{refusal_answers}
use Rattle.request_answer.proofs.seeking.visit_gate.Goals as goal

pub returns-in-Err-clause-answers : goal.returns-in-Err-clause-answers
returns-in-Err-clause-answers g c clock_tells =
    refusal_answers g.S.Finder.alone (record { site = c.args.visit.site.now; clock_tells = clock_tells })
    (record { message = c.args.visit.message.now; address = c.args.visit.address.now }) BadAcceptDatetime c.asks_for_head.result c.args.visit.closes
    (Ok c.refused.result) (g.S.Finder.told c.args.shelf.now) (g.met.S.Finder.earlier c.args.shelf.now)
    c.asks_for_head.ensures refl refl (λ faults. (c.requires.method, (c.args.of.now.url, c.requires.form), none_sought (map named_value c.args.visit.message.now.head.fields) (rw c.as_slice.ensures at c.in-Err.ensures)))
    (ap Ok c.refused.ensures.value)

pub returns-in-Err-clause-goes_on : goal.returns-in-Err-clause-goes_on
returns-in-Err-clause-goes_on g c = goes_on_itself g.S.Finder.alone (g.S.Finder.told c.args.shelf.now)
