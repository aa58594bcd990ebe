use Rattle.std.proofs.Common.{◌++◌, ◌∙◌, ap, subst}
use Rattle.capture.specs.First.{Responses}
use Rattle.http_head.specs.HeadReading as reading
use Rattle.http_wire.specs.HeldBodies.{held_bytes}
use Rattle.http_wire.specs.Reading.{TellsBody}
use Rattle.http_wire.proofs.RequestLaws.{bytes_of_front}
use Rattle.http_wire.proofs.ResponseLaws.{still_open, too_long_front}
use Rattle.http_wire.proofs.StandingLaws.{goes_on_front, takes_nothing}
use Rattle.http_wire.proofs.response.parts.ResponseParts.feed_head.Goals as goal

pub returns-in-More-clause-agrees : goal.returns-in-More-clause-agrees
returns-in-More-clause-agrees c =
    still_open c.args.answers_head _ c.requires.before c.requires.none
    (subst (λ p. reading.Reaches p c.feed.new.self) c.in-More.is c.in-Ok.ensures.progress)

pub returns-in-TooLong-clause-agrees : goal.returns-in-TooLong-clause-agrees
returns-in-TooLong-clause-agrees c =
    too_long_front c.args.answers_head _ c.requires.before c.requires.none
    (subst (λ p. reading.Reaches p c.feed.new.self) c.in-TooLong.is c.in-Ok.ensures.progress)

pub returns-in-TooLong-clause-takes_some : goal.returns-in-TooLong-clause-takes_some
returns-in-TooLong-clause-takes_some c =
    let none = ap held_bytes c.requires.before in (
      c.in-Ok.fed.used,
      goes_on_front
          (Responses c.args.answers_head) c.args.self.now.front c.args.piece.now c.feed.new.self (held_bytes c.args.self.now.held)
          (held_bytes c.args.self.now.held) c.in-Ok.fed.used none none c.in-Ok.ensures.fits c.in-Ok.ensures.takes
          c.in-Ok.ensures.soonest,
    )

pub returns-in-Ok-read_front-clause-reaches : goal.returns-in-Ok-read_front-clause-reaches
returns-in-Ok-read_front-clause-reaches c =
    let now = c.read_front.new.self in
    subst (TellsBody (Responses c.args.answers_head)) (bytes_of_front now.front (held_bytes now.held) c.in-Ok-read_front.ensures.bytes)
    c.in-Ok-read_front.ensures.tells

pub returns-in-Err-read_front-clause-takes_some : goal.returns-in-Err-read_front-clause-takes_some
returns-in-Err-read_front-clause-takes_some c =
    let now = c.read_front.new.self in (
      c.in-Ok.fed.used,
      goes_on_front
          (Responses c.args.answers_head) c.args.self.now.front c.args.piece.now now.front (held_bytes c.args.self.now.held) (held_bytes now.held)
          c.in-Ok.fed.used (ap held_bytes c.requires.before) c.in-Err-read_front.ensures.bytes c.in-Ok.ensures.fits
          (c.in-Err-read_front.ensures.front ∙ c.in-Ok.ensures.takes) c.in-Ok.ensures.soonest,
    )

pub returns-in-Err-clause-takes_some : goal.returns-in-Err-clause-takes_some
returns-in-Err-clause-takes_some c =
    (0, takes_nothing (Responses c.args.answers_head) _ c.args.piece.now _ (ap (λ front. front ++ held_bytes c.args.self.now.held) c.in-Err.ensures.err))
