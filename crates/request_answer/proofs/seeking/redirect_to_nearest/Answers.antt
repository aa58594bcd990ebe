-- The capture that a gate leads to, or that there is none.
use Rattle.std.proofs.Common.{Ok, refl, ap}
use Rattle.archive_shelf.proofs.CallLaws.{caught_goes_on}
use Rattle.replay_url.specs.Questions.{by_gate}
use Rattle.replay_url.specs.declared.form.Form.TheVariants.{Gate}
use Rattle.request_answer.specs.SiteAnswers.{Redirects}
use Rattle.request_answer.proofs.LookLaws.{look_lacking, looked_answers, none_looked}
use Rattle.request_answer.proofs.seeking.redirect_to_nearest.Goals as goal

pub returns-in-Ok-Some-clause-answers : goal.returns-in-Ok-Some-clause-answers
returns-in-Ok-Some-clause-answers g c clock_tells =
    let found = rw c.in-Ok-Some.field-0-is at c.in-Ok-Some.ensures.found in
    looked_answers g.S.Finder.alone (record { site = c.args.visit.site.now; clock_tells = clock_tells })
    (record { message = c.args.visit.message.now; address = c.args.visit.address.now })
    (Redirects (by_gate c.args.of.now.url) c.in-Ok-Some.entry) c.args.visit.closes c.lead_to.result (g.S.Finder.told c.args.shelf.now) (g.S.Finder.told c.seek.new.shelf)
    (g.met.S.Finder.earlier c.seek.new.shelf) c.seek.ensures.looks found.knows refl refl
    (λ faults. (
      record { form = Gate c.args.of.now.url; asks = c.requires.asks; asked = refl; key = found.key; keyed = found.keyed; time = c.args.time; timed = c.requires.timed; nearest = found.nearest },
      refl,
    ))
    (rw c.as_slice.ensures.value at c.lead_to.ensures.text) c.lead_to.ensures.closes

pub returns-in-Ok-None-clause-answers : goal.returns-in-Ok-None-clause-answers
returns-in-Ok-None-clause-answers g c clock_tells =
    let found = rw c.in-Ok-None.field-0-is at c.in-Ok-None.ensures.found in
    none_looked g.S.Finder.alone (record { site = c.args.visit.site.now; clock_tells = clock_tells })
    (record { message = c.args.visit.message.now; address = c.args.visit.address.now })
    c.asks_for_head-answers_head.result c.args.visit.closes (Ok c.refused.result) (g.S.Finder.told c.args.shelf.now) (g.S.Finder.told c.seek.new.shelf)
    (g.met.S.Finder.earlier c.seek.new.shelf) c.seek.ensures.looks found.knows
    (λ faults. (Gate c.args.of.now.url, c.requires.asks, c.args.of.now.url, refl, found.key, found.keyed, found.nearest))
    c.asks_for_head-answers_head.ensures (ap Ok c.refused.ensures.value)

pub returns-in-Err-clause-answers : goal.returns-in-Err-clause-answers
returns-in-Err-clause-answers g c clock_tells =
    look_lacking g.S.Finder.alone (record { site = c.args.visit.site.now; clock_tells = clock_tells })
    (record { message = c.args.visit.message.now; address = c.args.visit.address.now }) c.args.visit.closes _ (g.S.Finder.told c.args.shelf.now) (g.S.Finder.told c.seek.new.shelf)
    (g.met.S.Finder.earlier c.seek.new.shelf) c.seek.ensures.looks

pub returns-in-Ok-Some-clause-goes_on : goal.returns-in-Ok-Some-clause-goes_on
returns-in-Ok-Some-clause-goes_on g c =
    caught_goes_on g.S.Finder.alone (g.S.Finder.told c.args.shelf.now) (g.S.Finder.told c.seek.new.shelf) c.seek.ensures.looks

pub returns-in-Ok-None-clause-goes_on : goal.returns-in-Ok-None-clause-goes_on
returns-in-Ok-None-clause-goes_on g c =
    caught_goes_on g.S.Finder.alone (g.S.Finder.told c.args.shelf.now) (g.S.Finder.told c.seek.new.shelf) c.seek.ensures.looks

pub returns-in-Err-clause-goes_on : goal.returns-in-Err-clause-goes_on
returns-in-Err-clause-goes_on g c =
    caught_goes_on g.S.Finder.alone (g.S.Finder.told c.args.shelf.now) (g.S.Finder.told c.seek.new.shelf) c.seek.ensures.looks
