use Rattle.std.proofs.Common.{◌≡◌, ◌+◌, sym, subst, arith}
use Rattle.fixity.specs.steps.Runs.{RunsTo}
use Rattle.fixity.proofs.ShareLaws.{front_goes_on}
use Rattle.fixity.proofs.shares.with_share.Goals as goal

pub returns : goal.returns
returns c = λ namespace number bytes stands runs.
    let front = c.args.front in
    let share = c.args.share in
    let first : share.before ≡ front.groups = omega (arith, c.if-share-front.false) in
    let begins : share.at ≡ front.len = omega (arith, c.if-share-front-2.false) in
    subst (λ n. RunsTo namespace number bytes n c.in-Some-checked_add.len) (sym c.in-Some.ensures.1)
    (subst (λ p. RunsTo namespace number bytes (front.groups + share.groups) p) (sym c.in-Some-checked_add.ensures.1)
    (front_goes_on namespace number bytes front.groups front.len share.before share.at share.groups share.len runs first begins stands))
