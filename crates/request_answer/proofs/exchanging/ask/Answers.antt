-- What the origin gave, and what the shelf made of it.
use Rattle.std.proofs.Common.{◌∷◌, [], Ok, Err, refl, ◌∙◌}
use Rattle.archive_shelf.proofs.CallLaws.{goes_on_itself}
use Rattle.request_answer.specs.steps.Exchanging.{exchange_of}
use Rattle.request_answer.proofs.FetchLaws.{as_asked, fetch_failed, fetch_later}
use Rattle.request_answer.proofs.exchanging.ask.Goals as goal

pub returns-in-Ok-clause-asks : goal.returns-in-Ok-clause-asks
returns-in-Ok-clause-asks g c t site =
    let logs = as_asked (exchange_of c.args.sending.proxied) c.as_slice.result.now c.asks_for_head-answers_head.result (Ok c.in-Ok.received)
    (g.N.Dialer.links c.args.dialer.now) (g.N.Dialer.links c.fetch.new.dialer) (c.as_slice.ensures ∙ c.requires.request) c.asks_for_head-answers_head.ensures
    (c.in-Ok.ensures.logs t) in
    record {
      transcripts = logs.t ∷ [];
      logged = logs.gains;
      comes = c.pass_on.ensures.passes site (record {
        times = c.args.sending.date ∷ [];
        transcripts = logs.t ∷ [];
        faults_before = g.N.Dialer.faults c.args.dialer.now;
        faults_now = g.N.Dialer.faults c.fetch.new.dialer;
      }) (record { timed = refl; t = logs.t; linked = refl; fetched = logs.fetched; steady = c.in-Ok.ensures.counts });
    }

pub returns-in-Err-clause-asks : goal.returns-in-Err-clause-asks
returns-in-Err-clause-asks g c t site =
    fetch_failed g.S.Finder.alone site (exchange_of c.args.sending.proxied) c.args.sending.proxied.closes c.args.sending.date c.declined.result
    (g.N.Dialer.links c.args.dialer.now) (g.N.Dialer.links c.fetch.new.dialer) (g.N.Dialer.faults c.args.dialer.now) (g.N.Dialer.faults c.fetch.new.dialer)
    (g.S.Finder.told c.args.shelf.now)
    (g.met.S.Finder.earlier c.args.shelf.now)
    c.requires.date c.asks_for_head-answers_head.result c.asks_for_head-answers_head.ensures c.in-Err.fault
    (as_asked (exchange_of c.args.sending.proxied) c.as_slice.result.now c.asks_for_head-answers_head.result (Err c.in-Err.fault)
    (g.N.Dialer.links c.args.dialer.now) (g.N.Dialer.links c.fetch.new.dialer) (c.as_slice.ensures ∙ c.requires.request) c.asks_for_head-answers_head.ensures
    (c.in-Err.ensures.logs t)) c.in-Err.ensures.counts (rw c.why_unfetched.ensures at c.declined.ensures.declines)

pub returns-in-Err-clause-goes_on : goal.returns-in-Err-clause-goes_on
returns-in-Err-clause-goes_on g c = goes_on_itself g.S.Finder.alone (g.S.Finder.told c.args.shelf.now)

pub returns-in-Ok-clause-faults : goal.returns-in-Ok-clause-faults
returns-in-Ok-clause-faults g c =
    fetch_later (g.N.Dialer.faults c.args.dialer.now) (g.N.Dialer.faults c.fetch.new.dialer) (Ok c.in-Ok.received) c.in-Ok.ensures.counts

pub returns-in-Err-clause-faults : goal.returns-in-Err-clause-faults
returns-in-Err-clause-faults g c =
    fetch_later (g.N.Dialer.faults c.args.dialer.now) (g.N.Dialer.faults c.fetch.new.dialer) (Err c.in-Err.fault) c.in-Err.ensures.counts
