-- What the reader took is a front of the window.
use Rattle.std.proofs.Common.{inl, ap, ◌∙◌}
use Rattle.capture.specs.First.{Responses}
use Rattle.http_wire.specs.ResponseReading.{ResponseReading}
use Rattle.exchange.proofs.FeedLaws.{feeds_ok, feeds_err, heads_ok, says_whole, err_is_not_ok}
use Rattle.exchange.proofs.receiving.feed_response.Goals as goal

pub returns-in-Ok-clause-feeds : goal.returns-in-Ok-clause-feeds
returns-in-Ok-clause-feeds c =
    let takes = rw c.as_slice.ensures at c.in-Ok.ensures.takes in
    feeds_ok (Responses c.args.reader.now.answers_head) c.in-Ok.fed.progress c.in-Ok.fed.used c.args.reader.now.stream c.args.window.now
    c.feed.new.self.stream c.advance.new.self c.args.reader.now.standing c.feed.new.self.standing c.requires.going takes.stream_is c.advance.ensures
    (rw c.as_slice.ensures at c.in-Ok.ensures.all) c.in-Ok.ensures.reaches c.in-Ok.ensures.leaves c.in-Ok.ensures.whole
    (λ whole.
    let again = c.in-Ok.ensures.again (inl whole) in
    record {
      says = says_whole c.in-Ok.fed again.0;
      same = ap (λ (r : ResponseReading). r.stream) again.1;
      whole = ap (λ (r : ResponseReading). r.standing) again.1 ∙ whole;
    })

pub returns-in-Ok-clause-heads : goal.returns-in-Ok-clause-heads
returns-in-Ok-clause-heads c =
    heads_ok (Responses c.args.reader.now.answers_head) c.in-Ok.fed.progress c.args.reader.now.stream c.args.reader.now.head c.feed.new.self.head c.args.reader.now.standing
    c.requires.going c.requires.held c.in-Ok.ensures.heads
    (λ whole.
    let again = c.in-Ok.ensures.again (inl whole) in
    (says_whole c.in-Ok.fed again.0, ap (λ (r : ResponseReading). r.head) again.1))

pub returns-in-Err-clause-feeds : goal.returns-in-Err-clause-feeds
returns-in-Err-clause-feeds c =
    feeds_err (Responses c.args.reader.now.answers_head) c.in-Err.fault c.args.reader.now.stream c.args.window.now c.feed.new.self.stream c.clear.new.self
    c.args.reader.now.standing c.feed.new.self.standing c.requires.going (rw c.as_slice.ensures at c.in-Err.ensures.takes_some) c.clear.ensures
    c.in-Err.ensures.refuses c.in-Err.ensures.leaves c.in-Err.ensures.goes_on (λ whole. err_is_not_ok c.in-Err.fault _ (c.in-Err.ensures.again (inl whole)).0)
