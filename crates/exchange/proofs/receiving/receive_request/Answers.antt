-- The message and the window grow, and all that was given is theirs.
use Rattle.std.proofs.Common.{false, ◌++◌, ap, sym, subst}
use Rattle.capture.proofs.CutLaws.{whole_is_not_cut}
use Rattle.capture.specs.First.{Requests}
use Rattle.exchange.specs.Receiving.{StaysAccounted}
use Rattle.outside.specs.Link.{Traffic}
use Rattle.exchange.proofs.AccountLaws.{accounts_more}
use Rattle.http_wire.specs.Reading.{IsUndecided}
use Rattle.exchange.proofs.BetweenLaws.{nothing_begun}
use Rattle.exchange.proofs.FeedLaws.{further_on}
use Rattle.exchange.proofs.receiving.receive_request.Goals as goal

pub reading-smaller : goal.reading-smaller
reading-smaller g c =
    let feeds = rw c.in-Ok-More.field-0-is at c.in-Ok-More.ensures.feeds in
    further_on Requests c.reading.reader.stream c.reading.window c.feed_request.new.reader.stream c.refill.new.self
    feeds.0 feeds.3 (c.in-Ok-true.ensures.some.0 c.in-Ok-true.field-0-test)

pub returns-in-Err-end-clause-accounts : goal.returns-in-Err-end-clause-accounts
returns-in-Err-end-clause-accounts g c t =
    let link = g.L.Link in
    let feeds = rw c.in-Ok-More.field-0-is at c.in-Ok-More.ensures.feeds in
    let before = (link.traffic c.args.link.now).given in
    let pending = c.args.reader.now.stream ++ c.args.window.now in
    let now = (link.traffic c.refill.new.link).given in
    let accounts = accounts_more before pending (link.traffic c.reading.link).given c.reading.reader.stream c.reading.window
    c.feed_request.new.reader.stream now c.refill.new.self (c.reading.invariant.accounts t) feeds.0 (ap (λ (traffic : Traffic). traffic.given) (c.in-Ok-false.ensures.gives t)) in
    subst (λ s. StaysAccounted before pending now (s ++ c.refill.new.self)) (sym c.end.ensures.stream) accounts

pub returns-in-Ok-clause-between : goal.returns-in-Ok-clause-between
returns-in-Ok-clause-between g c =
    let feeds = rw c.in-Ok-More.field-0-is at c.in-Ok-More.ensures.feeds in
    let undecided = subst (λ s. IsUndecided Requests false s) (sym c.end.ensures.stream) feeds.3 in
    nothing_begun whole_is_not_cut c.end.new.self.stream c.end.new.self.standing undecided c.in-Ok.ensures.between
