-- What clock, origin and shelf left answers the request.
use Rattle.std.proofs.Common.{[], ◌∷◌, Ok, Err, refl, ap, arith, None}
use Rattle.archive_shelf.proofs.CallLaws.{goes_on_itself}
use Rattle.capture.specs.declared.refusal.Refusal.TheVariants.{ClockRange}
use Rattle.request_answer.specs.steps.Exchanging.{exchange_of}
use Rattle.request_answer.proofs.ExchangeLaws.{clock_alone, comes_answers, past_the_clock, refused_comes, unsent}
use Rattle.request_answer.proofs.FetchLaws.{same_log}
use Rattle.request_answer.proofs.exchanging.answer_proxied.Goals as goal

pub returns-then-date-gt-LATEST-clause-answers : goal.returns-then-date-gt-LATEST-clause-answers
returns-then-date-gt-LATEST-clause-answers g c t site then now =
    let date = c.now-date.result in
    let faults = g.N.Dialer.faults c.args.dialer.now in
    let e = exchange_of c.args.proxied in
    comes_answers g.S.Finder.alone (record { site = site; clock_tells = g.C.Clock.tells }) e c.args.proxied.closes (Ok c.refused.result) (date ∷ []) []
    (record { heard = then; answers = g.C.Clock.answers c.args.clock.now; links = g.N.Dialer.links c.args.dialer.now; dialer_faults = faults; shelf = g.S.Finder.told c.args.shelf.now })
    (record { heard = now; answers = g.C.Clock.answers c.now-date.new.self; links = g.N.Dialer.links c.args.dialer.now; dialer_faults = faults; shelf = g.S.Finder.told c.args.shelf.now })
    c.now-date.ensures.answers (same_log (g.N.Dialer.links c.args.dialer.now) (g.N.Dialer.links c.args.dialer.now) refl)
    (refused_comes g.S.Finder.alone site e (ClockRange date) c.asks_for_head.result c.args.proxied.closes (clock_alone date faults) (Ok c.refused.result) (g.S.Finder.told c.args.shelf.now) (g.S.Finder.told c.args.shelf.now)
    c.asks_for_head.ensures
    (past_the_clock g.S.Finder.alone site e date faults (g.S.Finder.told c.args.shelf.now)
    (g.met.S.Finder.earlier c.args.shelf.now)
    (λ within. omega (arith, c.if-date-gt-LATEST.true, within)))
    (ap Ok c.refused.ensures.value))

pub returns-in-Err-clause-answers : goal.returns-in-Err-clause-answers
returns-in-Err-clause-answers g c t site then now =
    let date = c.now-date.result in
    let faults = g.N.Dialer.faults c.args.dialer.now in
    let e = exchange_of c.args.proxied in
    comes_answers g.S.Finder.alone (record { site = site; clock_tells = g.C.Clock.tells }) e c.args.proxied.closes (Err _) (date ∷ []) []
    (record { heard = then; answers = g.C.Clock.answers c.args.clock.now; links = g.N.Dialer.links c.args.dialer.now; dialer_faults = faults; shelf = g.S.Finder.told c.args.shelf.now })
    (record { heard = now; answers = g.C.Clock.answers c.now-date.new.self; links = g.N.Dialer.links c.args.dialer.now; dialer_faults = faults; shelf = g.S.Finder.told c.args.shelf.now })
    c.now-date.ensures.answers (same_log (g.N.Dialer.links c.args.dialer.now) (g.N.Dialer.links c.args.dialer.now) refl) (
      None,
      unsent g.S.Finder.alone site e date faults (g.S.Finder.told c.args.shelf.now)
          (g.met.S.Finder.earlier c.args.shelf.now),
    )

pub returns-clause-answers : goal.returns-clause-answers
returns-clause-answers g c t site then now =
    let asked = c.ask.ensures.asks t site in
    comes_answers g.S.Finder.alone (record { site = site; clock_tells = g.C.Clock.tells }) (exchange_of c.args.proxied) c.args.proxied.closes c.ask.result (c.now-date.result ∷ []) asked.transcripts
    (record { heard = then; answers = g.C.Clock.answers c.args.clock.now; links = g.N.Dialer.links c.args.dialer.now; dialer_faults = g.N.Dialer.faults c.args.dialer.now; shelf = g.S.Finder.told c.args.shelf.now })
    (record { heard = now; answers = g.C.Clock.answers c.now-date.new.self; links = g.N.Dialer.links c.ask.new.dialer; dialer_faults = g.N.Dialer.faults c.ask.new.dialer; shelf = g.S.Finder.told c.ask.new.shelf })
    c.now-date.ensures.answers asked.logged asked.comes

pub returns-then-date-gt-LATEST-clause-goes_on : goal.returns-then-date-gt-LATEST-clause-goes_on
returns-then-date-gt-LATEST-clause-goes_on g c = goes_on_itself g.S.Finder.alone (g.S.Finder.told c.args.shelf.now)

pub returns-in-Err-clause-goes_on : goal.returns-in-Err-clause-goes_on
returns-in-Err-clause-goes_on g c = goes_on_itself g.S.Finder.alone (g.S.Finder.told c.args.shelf.now)
