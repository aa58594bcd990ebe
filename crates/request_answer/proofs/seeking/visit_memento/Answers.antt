-- The capture that an address leads to or names, or that there is none.
use Rattle.std.proofs.Common.{Ok, Some, refl, ap}
use Rattle.archive_shelf.proofs.CallLaws.{caught_goes_on, goes_on_both}
use Rattle.replay_url.specs.Questions.{by_memento, names_date}
use Rattle.replay_url.specs.declared.form.Form.TheVariants.{Memento}
use Rattle.request_answer.specs.SiteAnswers.{Redirects}
use Rattle.request_answer.proofs.FoundLaws.{by_test}
use Rattle.request_answer.proofs.LookLaws.{look_lacking, looked_answers, none_looked}
use Rattle.request_answer.proofs.seeking.visit_memento.Goals as goal

pub replay_found-requires : goal.replay_found-requires
replay_found-requires g c =
    let found = rw c.in-Ok-Some.field-0-is at c.in-Ok-Some.ensures.found in
    record {
      found = record {
        reaches = record {
          entry = c.in-Ok-Some.entry;
          reaches = record { form = Memento c.args.sought.time c.args.sought.digits c.args.sought.raw c.args.sought.of.now.url; asks = c.requires.asks; asked = refl; key = found.key; keyed = found.keyed; time = c.args.sought.time; timed = refl; nearest = found.nearest };
          named = by_test c.names_date.result (names_date (Some (record { time = c.args.sought.time; digits = c.args.sought.digits })) c.in-Ok-Some.entry.date) c.names_date.ensures c.if-names_date.true;
          number_is = c.number_of.ensures.number;
        };
        knows = found.knows;
      };
    }

pub returns-then-names_date-clause-answers : goal.returns-then-names_date-clause-answers
returns-then-names_date-clause-answers g c clock_tells = c.replay_found.ensures.answers clock_tells c.args.shelf.now c.seek.ensures.looks

pub returns-then-names_date-clause-goes_on : goal.returns-then-names_date-clause-goes_on
returns-then-names_date-clause-goes_on g c =
    goes_on_both g.S.Finder.alone (g.S.Finder.told c.args.shelf.now) (g.S.Finder.told c.seek.new.shelf) (g.S.Finder.told c.replay_found.new.shelf)
    (caught_goes_on g.S.Finder.alone (g.S.Finder.told c.args.shelf.now) (g.S.Finder.told c.seek.new.shelf) c.seek.ensures.looks)
    c.replay_found.ensures.goes_on

pub returns-else-names_date-clause-answers : goal.returns-else-names_date-clause-answers
returns-else-names_date-clause-answers g c clock_tells =
    let found = rw c.in-Ok-Some.field-0-is at c.in-Ok-Some.ensures.found in
    looked_answers g.S.Finder.alone (record { site = c.args.visit.site.now; clock_tells = clock_tells })
    (record { message = c.args.visit.message.now; address = c.args.visit.address.now })
    (Redirects (by_memento c.args.sought.time c.args.sought.digits c.args.sought.raw c.args.sought.of.now.url) c.in-Ok-Some.entry) c.args.visit.closes c.lead_to.result (g.S.Finder.told c.args.shelf.now) (g.S.Finder.told c.seek.new.shelf)
    (g.met.S.Finder.earlier c.seek.new.shelf) c.seek.ensures.looks found.knows refl refl
    (λ faults. (
      record { form = Memento c.args.sought.time c.args.sought.digits c.args.sought.raw c.args.sought.of.now.url; asks = c.requires.asks; asked = refl; key = found.key; keyed = found.keyed; time = c.args.sought.time; timed = refl; nearest = found.nearest },
      by_test c.names_date.result (names_date (Some (record { time = c.args.sought.time; digits = c.args.sought.digits })) c.in-Ok-Some.entry.date) c.names_date.ensures c.if-names_date.false,
    ))
    (rw c.as_slice.ensures.value at c.lead_to.ensures.text) c.lead_to.ensures.closes

pub returns-in-Ok-None-clause-answers : goal.returns-in-Ok-None-clause-answers
returns-in-Ok-None-clause-answers g c clock_tells =
    let found = rw c.in-Ok-None.field-0-is at c.in-Ok-None.ensures.found in
    none_looked g.S.Finder.alone (record { site = c.args.visit.site.now; clock_tells = clock_tells })
    (record { message = c.args.visit.message.now; address = c.args.visit.address.now })
    c.asks_for_head-answers_head.result c.args.visit.closes (Ok c.refused.result) (g.S.Finder.told c.args.shelf.now) (g.S.Finder.told c.seek.new.shelf)
    (g.met.S.Finder.earlier c.seek.new.shelf) c.seek.ensures.looks found.knows
    (λ faults. (Memento c.args.sought.time c.args.sought.digits c.args.sought.raw c.args.sought.of.now.url, c.requires.asks, c.args.sought.of.now.url, refl, found.key, found.keyed, found.nearest))
    c.asks_for_head-answers_head.ensures (ap Ok c.refused.ensures.value)

pub returns-in-Err-clause-answers : goal.returns-in-Err-clause-answers
returns-in-Err-clause-answers g c clock_tells =
    look_lacking g.S.Finder.alone (record { site = c.args.visit.site.now; clock_tells = clock_tells })
    (record { message = c.args.visit.message.now; address = c.args.visit.address.now }) c.args.visit.closes _ (g.S.Finder.told c.args.shelf.now) (g.S.Finder.told c.seek.new.shelf)
    (g.met.S.Finder.earlier c.seek.new.shelf) c.seek.ensures.looks

pub returns-else-names_date-clause-goes_on : goal.returns-else-names_date-clause-goes_on
returns-else-names_date-clause-goes_on g c =
    caught_goes_on g.S.Finder.alone (g.S.Finder.told c.args.shelf.now) (g.S.Finder.told c.seek.new.shelf) c.seek.ensures.looks

pub returns-in-Ok-None-clause-goes_on : goal.returns-in-Ok-None-clause-goes_on
returns-in-Ok-None-clause-goes_on g c =
    caught_goes_on g.S.Finder.alone (g.S.Finder.told c.args.shelf.now) (g.S.Finder.told c.seek.new.shelf) c.seek.ensures.looks

pub returns-in-Err-clause-goes_on : goal.returns-in-Err-clause-goes_on
returns-in-Err-clause-goes_on g c =
    caught_goes_on g.S.Finder.alone (g.S.Finder.told c.args.shelf.now) (g.S.Finder.told c.seek.new.shelf) c.seek.ensures.looks
