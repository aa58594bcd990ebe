-- The answer that was ready, or the refusal of the store.
use Rattle.std.proofs.Common.{sym, subst, None}
use Rattle.archive_shelf.proofs.CallLaws.{goes_on_itself, stored_goes_on}
use Rattle.capture.specs.Methods.{asks_for_head}
use Rattle.capture.specs.Payload.{IsPayload}
use Rattle.capture.specs.declared.framing.Framing.{Framing}
use Rattle.request_answer.specs.steps.Exchanging.{exchange_of, given_of}
use Rattle.request_answer.proofs.KeepLaws.{fits, follows_close, kept_comes, passes_close, unready}
use Rattle.request_answer.proofs.PassLaws.{payload_in}
use Rattle.request_answer.proofs.exchanging.pass_on.Goals as goal

pub passed_on-requires : goal.passed_on-requires
passed_on-requires g c = rw c.asks_for_head-answers_head.ensures c.requires.response

pub keep-requires : goal.keep-requires
keep-requires g c =
    rw c.taken_of.ensures (fits (exchange_of c.args.sending.proxied) c.args.sending.date c.args.received
    (c.requests_can_be_stored.ensures c.args.sending.proxied.message c.args.sending.proxied.target c.requires.asked)
    (c.responses_can_be_stored.ensures c.args.received c.args.sending.proxied.message.head.method c.requires.response c.requires.final_status)
    c.requires.date c.requires.within)

pub returns-in-Err-clause-passes : goal.returns-in-Err-clause-passes
returns-in-Err-clause-passes g c site around come = (
  None,
  unready g.S.Finder.alone site (exchange_of c.args.sending.proxied) c.args.sending.proxied.closes c.args.sending.date c.args.received around c.requires.date come
      (g.S.Finder.told c.args.shelf.now) (g.met.S.Finder.earlier c.args.shelf.now),
)

pub returns-clause-passes : goal.returns-clause-passes
returns-clause-passes g c site around come =
    let payload = payload_in (asks_for_head c.args.sending.proxied.message.head.method) c.args.received c.requires.response in
    kept_comes g.S.Finder.alone site (exchange_of c.args.sending.proxied) c.args.sending.proxied.closes c.args.sending.date c.args.received around c.requires.date come
    (given_of c.in-Ok.ready payload.0) c.asks_for_head-answers_head.result c.keep.result (g.S.Finder.told c.args.shelf.now) (g.S.Finder.told c.keep.new.shelf)
    c.stored_captures_have_their_payload.ensures (g.met.S.Finder.earlier c.keep.new.shelf)
    c.asks_for_head-answers_head.ensures c.requires.response (c.in-Ok.ensures.passes payload.0 payload.1)
    ((rw c.taken_of.ensures at c.keep.ensures) payload.0
    (subst (λ (f : Framing). IsPayload c.args.received.cut f c.args.received.wire payload.0) (sym c.in-Ok.ensures.framing) payload.1))

pub returns-in-Err-clause-goes_on : goal.returns-in-Err-clause-goes_on
returns-in-Err-clause-goes_on g c = goes_on_itself g.S.Finder.alone (g.S.Finder.told c.args.shelf.now)

pub returns-clause-goes_on : goal.returns-clause-goes_on
returns-clause-goes_on g c =
    let payload = payload_in (asks_for_head c.args.sending.proxied.message.head.method) c.args.received c.requires.response in
    let kept = (rw c.taken_of.ensures at c.keep.ensures) payload.0
    (subst (λ (f : Framing). IsPayload c.args.received.cut f c.args.received.wire payload.0) (sym c.in-Ok.ensures.framing) payload.1) in
    stored_goes_on g.S.Finder.alone _ (g.S.Finder.told c.args.shelf.now) (g.S.Finder.told c.keep.new.shelf) kept.said kept.shows.consistent kept.stores

pub returns-clause-closes : goal.returns-clause-closes
returns-clause-closes g c =
    let payload = payload_in (asks_for_head c.args.sending.proxied.message.head.method) c.args.received c.requires.response in
    let kept = (rw c.taken_of.ensures at c.keep.ensures) payload.0
    (subst (λ (f : Framing). IsPayload c.args.received.cut f c.args.received.wire payload.0) (sym c.in-Ok.ensures.framing) payload.1) in
    follows_close (given_of c.in-Ok.ready payload.0) c.asks_for_head-answers_head.result c.args.sending.proxied.closes kept.said c.keep.result kept.follows
    (λ closes. passes_close c.args.received c.asks_for_head-answers_head.result c.args.sending.proxied.closes (given_of c.in-Ok.ready payload.0) (c.in-Ok.ensures.passes payload.0 payload.1) closes)
