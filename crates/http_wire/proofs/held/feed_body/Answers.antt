use Rattle.std.proofs.Common.{sym, ap, subst, refl, ◌∙◌}
use Rattle.body_reader.specs.BodySoFar.{ReachesBody}
use Rattle.http_wire.specs.HeldBodies.{held_bytes}
use Rattle.http_wire.proofs.BodyLaws.{takes_more, takes_all, takes_nothing, whole_is_not_more, refused_is_not_more}
use Rattle.http_wire.proofs.held.feed_body.Goals as goal

pub returns-in-More-clause-takes : goal.returns-in-More-clause-takes
returns-in-More-clause-takes c =
    takes_more c.args.body c.args.piece.now c.in-Ok.fed.used c.feed.new.self c.in-Ok.ensures.fits c.in-Ok.ensures.takes
    (subst (λ p. ReachesBody p c.feed.new.self) c.in-More.is c.in-Ok.ensures.progress)

pub returns-in-Whole-clause-takes : goal.returns-in-Whole-clause-takes
returns-in-Whole-clause-takes c =
    takes_all c.args.body c.args.piece.now c.in-Ok.fed.used c.feed.new.self c.close_body.result c.in-Ok.ensures.fits
    c.in-Ok.ensures.takes (ap held_bytes c.close_body.ensures)
    (c.in-Ok.ensures.soonest (λ more. whole_is_not_more (sym c.in-Whole.is ∙ more)))

pub returns-in-Refused-clause-takes_some : goal.returns-in-Refused-clause-takes_some
returns-in-Refused-clause-takes_some c = (
  c.in-Ok.fed.used,
  takes_all
      c.args.body c.args.piece.now c.in-Ok.fed.used c.feed.new.self _ c.in-Ok.ensures.fits c.in-Ok.ensures.takes refl
      (c.in-Ok.ensures.soonest (λ more. refused_is_not_more c.in-Refused.fault (sym c.in-Refused.is ∙ more))),
)

pub returns-in-Err-clause-takes_some : goal.returns-in-Err-clause-takes_some
returns-in-Err-clause-takes_some c = takes_nothing c.args.body c.args.piece.now c.feed.new.self c.in-Err.ensures.err
