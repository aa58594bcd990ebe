-- What each step of serving makes of the connection.
use Rattle.std.proofs.Common.{[], refl, sym, ◌∙◌, arith, lit<}
use Rattle.archive_shelf.proofs.CallLaws.{goes_on_both, goes_on_itself}
use Rattle.outside.specs.Gate.{heard_of}
use Rattle.request_answer.specs.declared.TheConstants.{REQUEST_LIMIT}
use Rattle.session.proofs.CourseLaws.{whole_connection}
use Rattle.session.proofs.RoundLaws.{gave_up_at_once}
use Rattle.session.proofs.ServeLaws.{answer_broke, answer_closed, answer_lacked, answer_said, reading_ends, still_fewer}
use Rattle.session.proofs.serving.serve.Goals as goal

pub returns-in-Err-clause-serves : goal.returns-in-Err-clause-serves
returns-in-Err-clause-serves g c t n =
    rw c.give_up.ensures.ends (whole_connection g.S.Finder.alone _ _ _ _ (gave_up_at_once g.S.Finder.alone (record { site = c.args.site.now; clock_tells = g.C.Clock.tells })
    (record { served = 0; pending = []; world = (record { heard = heard_of (g.L.Link.traffic c.args.client.now) (g.L.Link.faults c.args.client.now); answers = g.C.Clock.answers c.args.clock.now; links = g.N.Dialer.links c.args.dialer.now; dialer_faults = g.N.Dialer.faults c.args.dialer.now; shelf = g.S.Finder.told c.args.shelf.now }) })
    (heard_of (g.L.Link.traffic c.give_up.new.client) (g.L.Link.faults c.give_up.new.client))
    c.leading_books_grow.ensures.itself (c.give_up.ensures.tries t)))

pub returns-in-Err-new-clause-serves : goal.returns-in-Err-new-clause-serves
returns-in-Err-new-clause-serves g c t n =
    rw c.give_up-in-Err-new.ensures.ends (whole_connection g.S.Finder.alone _ _ _ _ (gave_up_at_once g.S.Finder.alone (record { site = c.args.site.now; clock_tells = g.C.Clock.tells })
    (record { served = 0; pending = []; world = (record { heard = heard_of (g.L.Link.traffic c.args.client.now) (g.L.Link.faults c.args.client.now); answers = g.C.Clock.answers c.args.clock.now; links = g.N.Dialer.links c.args.dialer.now; dialer_faults = g.N.Dialer.faults c.args.dialer.now; shelf = g.S.Finder.told c.args.shelf.now }) })
    (heard_of (g.L.Link.traffic c.give_up-in-Err-new.new.client) (g.L.Link.faults c.give_up-in-Err-new.new.client))
    c.leading_books_grow.ensures.itself (c.give_up-in-Err-new.ensures.tries t)))

pub serving-init : goal.serving-init
serving-init g c = record {
  joins = λ t n heard answers links faults shelf result h. whole_connection g.S.Finder.alone _ _ _ _ (rw c.in-Ok.ensures at h);
  whole = c.requires.no_fault;
  fewer = lit< tt;
  empty = c.in-Ok-new.ensures;
  goes_on = goes_on_itself g.S.Finder.alone (g.S.Finder.told c.args.shelf.now);
  faults = omega arith;
}

pub returns-in-Err-read_request-clause-serves : goal.returns-in-Err-read_request-clause-serves
returns-in-Err-read_request-clause-serves g c t n =
    c.serving.invariant.joins t n _ _ _ _ c.serving.shelf _ (reading_ends g.S.Finder.alone (record { site = c.args.site.now; clock_tells = g.C.Clock.tells })
    (record { served = c.serving.served; pending = c.serving.of_client; world = (record { heard = heard_of (g.L.Link.traffic c.serving.client) (g.L.Link.faults c.serving.client); answers = g.C.Clock.answers c.serving.clock; links = g.N.Dialer.links c.serving.dialer; dialer_faults = g.N.Dialer.faults c.serving.dialer; shelf = g.S.Finder.told c.serving.shelf }) })
    (heard_of (g.L.Link.traffic c.read_request.new.client) (g.L.Link.faults c.read_request.new.client)) c.in-Err-read_request.end c.leading_books_grow.ensures.itself (c.in-Err-read_request.ensures.reads t))

pub returns-in-Err-read_request-clause-goes_on : goal.returns-in-Err-read_request-clause-goes_on
returns-in-Err-read_request-clause-goes_on g c = c.serving.invariant.goes_on

pub returns-in-Err-read_request-clause-faults : goal.returns-in-Err-read_request-clause-faults
returns-in-Err-read_request-clause-faults g c = c.serving.invariant.faults

pub returns-in-Err-answer-clause-serves : goal.returns-in-Err-answer-clause-serves
returns-in-Err-answer-clause-serves g c t n =
    let read = c.in-Ok-read_request.ensures.reads t in
    c.serving.invariant.joins t n _ _ _ _ c.answer.new.shelf _ (rw c.give_up-in-Err-answer.ensures.ends (answer_lacked g.S.Finder.alone (record { site = c.args.site.now; clock_tells = g.C.Clock.tells })
    (record { served = c.serving.served; pending = c.serving.of_client; world = (record { heard = heard_of (g.L.Link.traffic c.serving.client) (g.L.Link.faults c.serving.client); answers = g.C.Clock.answers c.serving.clock; links = g.N.Dialer.links c.serving.dialer; dialer_faults = g.N.Dialer.faults c.serving.dialer; shelf = g.S.Finder.told c.serving.shelf }) })
    (record { served = c.serving.served; wire = read.wire; interim = read.interim }) (record { heard = (heard_of (g.L.Link.traffic c.read_request.new.client) (g.L.Link.faults c.read_request.new.client)); pending = c.read_request.new.window })
    (record { heard = heard_of (g.L.Link.traffic c.give_up-in-Err-answer.new.client) (g.L.Link.faults c.give_up-in-Err-answer.new.client); answers = g.C.Clock.answers c.answer.new.clock; links = g.N.Dialer.links c.answer.new.dialer; dialer_faults = g.N.Dialer.faults c.answer.new.dialer; shelf = g.S.Finder.told c.answer.new.shelf })
    c.leading_books_grow.ensures.itself refl read.taken
    (c.in-Err-answer.ensures.answers n (record { served = c.serving.served; wire = read.wire; interim = read.interim }) (heard_of (g.L.Link.traffic c.serving.client) (g.L.Link.faults c.serving.client)) (heard_of (g.L.Link.traffic c.give_up-in-Err-answer.new.client) (g.L.Link.faults c.give_up-in-Err-answer.new.client)) c.closes_after-closes.ensures read.asked read.interim_is)
    (c.give_up-in-Err-answer.ensures.tries t)))

pub returns-in-Err-answer-clause-goes_on : goal.returns-in-Err-answer-clause-goes_on
returns-in-Err-answer-clause-goes_on g c =
    goes_on_both g.S.Finder.alone (g.S.Finder.told c.args.shelf.now) (g.S.Finder.told c.serving.shelf) (g.S.Finder.told c.answer.new.shelf) c.serving.invariant.goes_on c.answer.ensures.goes_on

pub returns-in-Err-answer-clause-faults : goal.returns-in-Err-answer-clause-faults
returns-in-Err-answer-clause-faults g c = omega (arith, c.serving.invariant.faults, c.answer.ensures.faults)

pub returns-in-Err-say-clause-serves : goal.returns-in-Err-say-clause-serves
returns-in-Err-say-clause-serves g c t n =
    let read = c.in-Ok-read_request.ensures.reads t in
    c.serving.invariant.joins t n _ _ _ _ c.answer.new.shelf _ (answer_broke g.S.Finder.alone (record { site = c.args.site.now; clock_tells = g.C.Clock.tells })
    (record { served = c.serving.served; pending = c.serving.of_client; world = (record { heard = heard_of (g.L.Link.traffic c.serving.client) (g.L.Link.faults c.serving.client); answers = g.C.Clock.answers c.serving.clock; links = g.N.Dialer.links c.serving.dialer; dialer_faults = g.N.Dialer.faults c.serving.dialer; shelf = g.S.Finder.told c.serving.shelf }) })
    (record { served = c.serving.served; wire = read.wire; interim = read.interim }) c.in-Ok-answer.answer (record { heard = (heard_of (g.L.Link.traffic c.read_request.new.client) (g.L.Link.faults c.read_request.new.client)); pending = c.read_request.new.window })
    (record { heard = heard_of (g.L.Link.traffic c.say.new.client) (g.L.Link.faults c.say.new.client); answers = g.C.Clock.answers c.answer.new.clock; links = g.N.Dialer.links c.answer.new.dialer; dialer_faults = g.N.Dialer.faults c.answer.new.dialer; shelf = g.S.Finder.told c.answer.new.shelf })
    c.leading_books_grow.ensures.itself refl read.taken
    (c.in-Ok-answer.ensures.answers n (record { served = c.serving.served; wire = read.wire; interim = read.interim }) (heard_of (g.L.Link.traffic c.serving.client) (g.L.Link.faults c.serving.client)) (heard_of (g.L.Link.traffic c.say.new.client) (g.L.Link.faults c.say.new.client)) c.closes_after-closes.ensures read.asked read.interim_is)
    (c.in-Err-say.ensures.says t))

pub returns-in-Err-say-clause-goes_on : goal.returns-in-Err-say-clause-goes_on
returns-in-Err-say-clause-goes_on g c =
    goes_on_both g.S.Finder.alone (g.S.Finder.told c.args.shelf.now) (g.S.Finder.told c.serving.shelf) (g.S.Finder.told c.answer.new.shelf) c.serving.invariant.goes_on c.answer.ensures.goes_on

pub returns-in-Err-say-clause-faults : goal.returns-in-Err-say-clause-faults
returns-in-Err-say-clause-faults g c = omega (arith, c.serving.invariant.faults, c.answer.ensures.faults)

pub returns-then-closed-clause-serves : goal.returns-then-closed-clause-serves
returns-then-closed-clause-serves g c t n =
    let read = c.in-Ok-read_request.ensures.reads t in
    c.serving.invariant.joins t n _ _ _ _ c.answer.new.shelf _ (answer_closed g.S.Finder.alone (record { site = c.args.site.now; clock_tells = g.C.Clock.tells })
    (record { served = c.serving.served; pending = c.serving.of_client; world = (record { heard = heard_of (g.L.Link.traffic c.serving.client) (g.L.Link.faults c.serving.client); answers = g.C.Clock.answers c.serving.clock; links = g.N.Dialer.links c.serving.dialer; dialer_faults = g.N.Dialer.faults c.serving.dialer; shelf = g.S.Finder.told c.serving.shelf }) })
    (record { served = c.serving.served; wire = read.wire; interim = read.interim }) c.in-Ok-answer.answer (record { heard = (heard_of (g.L.Link.traffic c.read_request.new.client) (g.L.Link.faults c.read_request.new.client)); pending = c.read_request.new.window })
    (record { heard = heard_of (g.L.Link.traffic c.say.new.client) (g.L.Link.faults c.say.new.client); answers = g.C.Clock.answers c.answer.new.clock; links = g.N.Dialer.links c.answer.new.dialer; dialer_faults = g.N.Dialer.faults c.answer.new.dialer; shelf = g.S.Finder.told c.answer.new.shelf })
    c.leading_books_grow.ensures.itself refl read.taken
    (c.in-Ok-answer.ensures.answers n (record { served = c.serving.served; wire = read.wire; interim = read.interim }) (heard_of (g.L.Link.traffic c.serving.client) (g.L.Link.faults c.serving.client)) (heard_of (g.L.Link.traffic c.say.new.client) (g.L.Link.faults c.say.new.client)) c.closes_after-closes.ensures read.asked read.interim_is)
    (c.in-Ok-say.ensures.says t) (sym c.closes-closed.ensures ∙ c.if-closed.true))

pub returns-then-closed-clause-goes_on : goal.returns-then-closed-clause-goes_on
returns-then-closed-clause-goes_on g c =
    goes_on_both g.S.Finder.alone (g.S.Finder.told c.args.shelf.now) (g.S.Finder.told c.serving.shelf) (g.S.Finder.told c.answer.new.shelf) c.serving.invariant.goes_on c.answer.ensures.goes_on

pub returns-then-closed-clause-faults : goal.returns-then-closed-clause-faults
returns-then-closed-clause-faults g c = omega (arith, c.serving.invariant.faults, c.answer.ensures.faults)

pub serving-preserved : goal.serving-preserved
serving-preserved g c = record {
  joins = λ t n heard answers links faults shelf result h.
      let read = c.in-Ok-read_request.ensures.reads t in
      c.serving.invariant.joins t n heard answers links faults shelf result (answer_said g.S.Finder.alone (record { site = c.args.site.now; clock_tells = g.C.Clock.tells })
      (record { served = c.serving.served; pending = c.serving.of_client; world = (record { heard = heard_of (g.L.Link.traffic c.serving.client) (g.L.Link.faults c.serving.client); answers = g.C.Clock.answers c.serving.clock; links = g.N.Dialer.links c.serving.dialer; dialer_faults = g.N.Dialer.faults c.serving.dialer; shelf = g.S.Finder.told c.serving.shelf }) })
      (record { served = c.serving.served; wire = read.wire; interim = read.interim }) c.in-Ok-answer.answer (record { heard = (heard_of (g.L.Link.traffic c.read_request.new.client) (g.L.Link.faults c.read_request.new.client)); pending = c.read_request.new.window })
      (record { heard = heard_of (g.L.Link.traffic c.say.new.client) (g.L.Link.faults c.say.new.client); answers = g.C.Clock.answers c.answer.new.clock; links = g.N.Dialer.links c.answer.new.dialer; dialer_faults = g.N.Dialer.faults c.answer.new.dialer; shelf = g.S.Finder.told c.answer.new.shelf })
      (record { heard = heard; answers = answers; links = links; dialer_faults = faults; shelf = g.S.Finder.told shelf }) result refl read.taken
      (c.in-Ok-answer.ensures.answers n (record { served = c.serving.served; wire = read.wire; interim = read.interim }) (heard_of (g.L.Link.traffic c.serving.client) (g.L.Link.faults c.serving.client)) (heard_of (g.L.Link.traffic c.say.new.client) (g.L.Link.faults c.say.new.client)) c.closes_after-closes.ensures read.asked read.interim_is)
      (c.in-Ok-say.ensures.says t) (sym c.closes-closed.ensures ∙ c.if-closed.false) h);
  whole = c.in-Ok-say.ensures.whole;
  fewer = still_fewer c.serving.served REQUEST_LIMIT _ c.closes_after-closes.result c.in-Ok-answer.answer.closes c.serving.invariant.fewer
      c.closes_after-closes.ensures c.in-Ok-answer.ensures.closes (sym c.closes-closed.ensures ∙ c.if-closed.false);
  empty = c.answer.ensures.window;
  goes_on = goes_on_both g.S.Finder.alone (g.S.Finder.told c.args.shelf.now) (g.S.Finder.told c.serving.shelf) (g.S.Finder.told c.answer.new.shelf) c.serving.invariant.goes_on c.answer.ensures.goes_on;
  faults = omega (arith, c.serving.invariant.faults, c.answer.ensures.faults);
}
