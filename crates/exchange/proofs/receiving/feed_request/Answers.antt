-- What the reader took is a front of the window.
use Rattle.std.proofs.Common.{ap}
use Rattle.capture.specs.First.{Requests}
use Rattle.http_wire.specs.RequestReading.{RequestReading}
use Rattle.exchange.proofs.FeedLaws.{feeds_err, heads_ok, says_whole, err_is_not_ok}
use Rattle.exchange.proofs.receiving.feed_request.Goals as goal

pub returns-in-Ok-clause-heads : goal.returns-in-Ok-clause-heads
returns-in-Ok-clause-heads c =
    heads_ok Requests c.in-Ok.fed.progress c.args.reader.now.stream c.args.reader.now.head c.feed.new.self.head c.args.reader.now.standing
    c.requires.going c.requires.held c.in-Ok.ensures.heads
    (λ whole.
    let again = c.in-Ok.ensures.again whole in
    (says_whole c.in-Ok.fed again.0, ap (λ (r : RequestReading). r.head) again.1))

pub returns-in-Err-clause-feeds : goal.returns-in-Err-clause-feeds
returns-in-Err-clause-feeds c =
    feeds_err Requests c.in-Err.fault c.args.reader.now.stream c.args.window.now c.feed.new.self.stream c.clear.new.self
    c.args.reader.now.standing c.feed.new.self.standing c.requires.going (rw c.as_slice.ensures at c.in-Err.ensures.takes_some) c.clear.ensures
    c.in-Err.ensures.refuses c.in-Err.ensures.leaves c.in-Err.ensures.goes_on (λ whole. err_is_not_ok c.in-Err.fault _ (c.in-Err.ensures.again whole).0)
