-- The list of the captures that are shown, or that there are none.
use Rattle.std.proofs.Common.{Ok, refl, ap, arith}
use Rattle.std.specs.Prelude.{vec_len}
use Rattle.archive_shelf.proofs.CallLaws.{caught_goes_on}
use Rattle.replay_url.specs.declared.form.Form.TheVariants.{Map}
use Rattle.request_answer.specs.SiteAnswers.{Lists}
use Rattle.request_answer.proofs.DateLaws.{listed_in_order}
use Rattle.request_answer.proofs.LookLaws.{empty_list, lists_none, look_lacking, looked_answers, none_looked, some_list}
use Rattle.request_answer.proofs.listing.visit_map.Goals as goal

pub list-requires-clause-in_order : goal.list-requires-clause-in_order
list-requires-clause-in_order g c = rw c.as_slice-in-Ok.ensures.value (listed_in_order g.S.Finder.alone (g.S.Finder.told c.all_of.new.shelf).contents c.args.of.now.url c.in-Ok.entries.items c.in-Ok.ensures.found)

pub returns-then-is_empty-clause-answers : goal.returns-then-is_empty-clause-answers
returns-then-is_empty-clause-answers g c clock_tells =
    let found = c.in-Ok.ensures.found in
    none_looked g.S.Finder.alone (record { site = c.args.visit.site.now; clock_tells = clock_tells })
    (record { message = c.args.visit.message.now; address = c.args.visit.address.now })
    c.asks_for_head-answers_head.result c.args.visit.closes (Ok c.refused.result) (g.S.Finder.told c.args.shelf.now) (g.S.Finder.told c.all_of.new.shelf)
    (g.met.S.Finder.earlier c.all_of.new.shelf) c.all_of.ensures.looks found.knows
    (λ faults. (Map c.args.of.now.url, c.requires.asks, c.args.of.now.url, refl, found.key, found.keyed, lists_none g.S.Finder.alone (g.S.Finder.told c.all_of.new.shelf).contents c.args.of.now.url c.in-Ok.entries.items found (empty_list c.in-Ok.entries.items (vec_len c.in-Ok.entries) c.is_empty.result (omega (arith, c.in-Ok.entries.ok.0)) c.is_empty.ensures c.if-is_empty.true)))
    c.asks_for_head-answers_head.ensures (ap Ok c.refused.ensures.value)

pub returns-else-is_empty-clause-answers : goal.returns-else-is_empty-clause-answers
returns-else-is_empty-clause-answers g c clock_tells =
    let found = c.in-Ok.ensures.found in
    looked_answers g.S.Finder.alone (record { site = c.args.visit.site.now; clock_tells = clock_tells })
    (record { message = c.args.visit.message.now; address = c.args.visit.address.now })
    (Lists c.args.of.now.url c.in-Ok.entries.items) c.args.visit.closes c.list.result (g.S.Finder.told c.args.shelf.now) (g.S.Finder.told c.all_of.new.shelf)
    (g.met.S.Finder.earlier c.all_of.new.shelf) c.all_of.ensures.looks found.knows refl refl
    (λ faults. (found.key, c.requires.asks, found.keyed, found.picked, some_list c.in-Ok.entries.items (vec_len c.in-Ok.entries) c.is_empty.result (omega (arith, c.in-Ok.entries.ok.0)) c.is_empty.ensures c.if-is_empty.false))
    (rw (c.as_slice.ensures.value, c.as_slice-in-Ok.ensures.value) at c.list.ensures.text) c.list.ensures.closes

pub returns-in-Err-clause-answers : goal.returns-in-Err-clause-answers
returns-in-Err-clause-answers g c clock_tells =
    look_lacking g.S.Finder.alone (record { site = c.args.visit.site.now; clock_tells = clock_tells })
    (record { message = c.args.visit.message.now; address = c.args.visit.address.now }) c.args.visit.closes _ (g.S.Finder.told c.args.shelf.now) (g.S.Finder.told c.all_of.new.shelf)
    (g.met.S.Finder.earlier c.all_of.new.shelf) c.all_of.ensures.looks

pub returns-then-is_empty-clause-goes_on : goal.returns-then-is_empty-clause-goes_on
returns-then-is_empty-clause-goes_on g c =
    caught_goes_on g.S.Finder.alone (g.S.Finder.told c.args.shelf.now) (g.S.Finder.told c.all_of.new.shelf) c.all_of.ensures.looks

pub returns-else-is_empty-clause-goes_on : goal.returns-else-is_empty-clause-goes_on
returns-else-is_empty-clause-goes_on g c =
    caught_goes_on g.S.Finder.alone (g.S.Finder.told c.args.shelf.now) (g.S.Finder.told c.all_of.new.shelf) c.all_of.ensures.looks

pub returns-in-Err-clause-goes_on : goal.returns-in-Err-clause-goes_on
returns-in-Err-clause-goes_on g c =
    caught_goes_on g.S.Finder.alone (g.S.Finder.told c.args.shelf.now) (g.S.Finder.told c.all_of.new.shelf) c.all_of.ensures.looks
