-- What stands behind the interim responses so far.
use Rattle.std.proofs.Common.{ap, arith, ◌∙◌, Ok, Err}
use Rattle.http_head.proofs.FrontLaws.{heads_stay}
use Rattle.http_wire.specs.ResponseReading.{ResponseReading, new_response}
use Rattle.exchange.proofs.ArrivalLaws.{further_from, fails, arrives, too_many, awaits_next}
use Rattle.exchange.proofs.TrafficLaws.{gives_on}
use Rattle.exchange.proofs.fetching.receive_with.Goals as goal

pub returns-in-Err-clause-receives : goal.returns-in-Err-clause-receives
returns-in-Err-clause-receives g c t =
    let awaits = c.receiving.invariant.awaits t in
    let ah = ap (λ (r : ResponseReading). r.answers_head) c.receiving.invariant.reader in
    let given = (g.L.Link.traffic c.receiving.link).given in
    let given_now = (g.L.Link.traffic c.next_response.new.link).given in
    let ended = (g.L.Link.traffic c.next_response.new.link).ended in
    let further = further_from c.args.answers_head c.receiving.reader.answers_head ended (Err c.in-Err.fault) given c.receiving.window given_now
    c.next_response.new.window c.receiving.interims awaits ah (c.in-Err.ensures.answers t) in
    fails heads_stay c.args.answers_head ended given c.receiving.window given_now c.next_response.new.window
    c.receiving.interims c.in-Err.fault awaits c.receiving.invariant.few further

pub returns-then-is_final-clause-receives : goal.returns-then-is_final-clause-receives
returns-then-is_final-clause-receives g c t =
    let awaits = c.receiving.invariant.awaits t in
    let ah = ap (λ (r : ResponseReading). r.answers_head) c.receiving.invariant.reader in
    let given = (g.L.Link.traffic c.receiving.link).given in
    let given_now = (g.L.Link.traffic c.next_response.new.link).given in
    let ended = (g.L.Link.traffic c.next_response.new.link).ended in
    let further = further_from c.args.answers_head c.receiving.reader.answers_head ended (Ok c.in-Ok.received) given c.receiving.window given_now
    c.next_response.new.window c.receiving.interims awaits ah (c.in-Ok.ensures.answers t) in
    arrives heads_stay c.args.answers_head ended given c.receiving.window given_now c.next_response.new.window
    c.receiving.interims c.in-Ok.received awaits c.receiving.invariant.few further c.if-is_final.true

pub returns-then-full-clause-receives : goal.returns-then-full-clause-receives
returns-then-full-clause-receives g c t =
    let awaits = c.receiving.invariant.awaits t in
    let ah = ap (λ (r : ResponseReading). r.answers_head) c.receiving.invariant.reader in
    let given = (g.L.Link.traffic c.receiving.link).given in
    let given_now = (g.L.Link.traffic c.next_response.new.link).given in
    let ended = (g.L.Link.traffic c.next_response.new.link).ended in
    let further = further_from c.args.answers_head c.receiving.reader.answers_head ended (Ok c.in-Ok.received) given c.receiving.window given_now
    c.next_response.new.window c.receiving.interims awaits ah (c.in-Ok.ensures.answers t) in
    too_many c.args.answers_head ended given c.receiving.window given_now c.next_response.new.window
    c.receiving.interims c.in-Ok.received awaits (omega (arith, c.if-full.true)) further (omega (arith, c.if-is_final.false))

pub receiving-preserved : goal.receiving-preserved
receiving-preserved g c =
    let ah = ap (λ (r : ResponseReading). r.answers_head) c.receiving.invariant.reader in
    let given = (g.L.Link.traffic c.receiving.link).given in
    let given_now = (g.L.Link.traffic c.next_response.new.link).given in
    let ended = (g.L.Link.traffic c.next_response.new.link).ended in
    record {
      reader = c.in-Ok.ensures.renewed ∙ ap (λ a. new_response a) ah;
      few = omega (arith, c.receiving.invariant.few, c.if-full.false);
      awaits = λ t.
          let awaits = c.receiving.invariant.awaits t in
          awaits_next c.args.answers_head ended given c.receiving.window given_now c.next_response.new.window c.receiving.interims c.in-Ok.received awaits
          (further_from c.args.answers_head c.receiving.reader.answers_head ended (Ok c.in-Ok.received) given c.receiving.window given_now
          c.next_response.new.window c.receiving.interims awaits ah (c.in-Ok.ensures.answers t))
          (omega (arith, c.if-is_final.false));
      faults = c.in-Ok.ensures.counts ∙ c.receiving.invariant.faults;
      gives = λ t. gives_on (g.L.Link.traffic c.args.link.now) (g.L.Link.traffic c.receiving.link) (g.L.Link.traffic c.next_response.new.link) (c.receiving.invariant.gives t) (c.in-Ok.ensures.gives t);
    }
