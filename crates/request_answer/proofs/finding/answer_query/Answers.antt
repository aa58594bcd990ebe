-- What was looked up is the answer.
use Rattle.std.proofs.Common.{refl}
use Rattle.archive_shelf.proofs.CallLaws.{caught_goes_on}
use Rattle.request_answer.specs.SiteAnswers.{Finds}
use Rattle.request_answer.proofs.LookLaws.{look_lacking, looked_answers}
use Rattle.request_answer.proofs.finding.answer_query.Goals as goal

pub look_up-requires : goal.look_up-requires
look_up-requires g c = record { start = c.requires.asks.2.start }

pub returns-in-Ok-clause-answers : goal.returns-in-Ok-clause-answers
returns-in-Ok-clause-answers g c clock_tells =
    let there = c.in-Ok.ensures.found in
    looked_answers g.S.Finder.alone (record { site = c.args.visit.site.now; clock_tells = clock_tells })
    (record { message = c.args.visit.message.now; address = c.args.visit.address.now })
    (Finds c.args.query.now c.in-Ok.text) c.args.visit.closes c.found.result (g.S.Finder.told c.args.shelf.now) (g.S.Finder.told c.look_up.new.shelf)
    (g.met.S.Finder.earlier c.look_up.new.shelf) c.look_up.ensures.looks there.knows refl refl
    (λ faults. (c.requires.asks.0, c.requires.asks.1, c.requires.asks.2, there.answers))
    (rw c.media_type.ensures at c.found.ensures.text) c.found.ensures.closes

pub returns-in-Err-clause-answers : goal.returns-in-Err-clause-answers
returns-in-Err-clause-answers g c clock_tells =
    look_lacking g.S.Finder.alone (record { site = c.args.visit.site.now; clock_tells = clock_tells })
    (record { message = c.args.visit.message.now; address = c.args.visit.address.now }) c.args.visit.closes _ (g.S.Finder.told c.args.shelf.now) (g.S.Finder.told c.look_up.new.shelf)
    (g.met.S.Finder.earlier c.look_up.new.shelf) c.look_up.ensures.looks

pub returns-in-Ok-clause-goes_on : goal.returns-in-Ok-clause-goes_on
returns-in-Ok-clause-goes_on g c =
    caught_goes_on g.S.Finder.alone (g.S.Finder.told c.args.shelf.now) (g.S.Finder.told c.look_up.new.shelf) c.look_up.ensures.looks

pub returns-in-Err-clause-goes_on : goal.returns-in-Err-clause-goes_on
returns-in-Err-clause-goes_on g c =
    caught_goes_on g.S.Finder.alone (g.S.Finder.told c.args.shelf.now) (g.S.Finder.told c.look_up.new.shelf) c.look_up.ensures.looks
