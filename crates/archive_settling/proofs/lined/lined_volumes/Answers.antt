-- A line told of the next volume, or not.
use Rattle.std.proofs.Common.{◌∷◌, suc, List, refl, sym, subst, arith}
use Rattle.std.specs.Prelude.{Contains}
use Rattle.archive_volumes.specs.declared.spot.Spot.{Spot}
use Rattle.archive_settling.proofs.WalkingLaws.{lined_next, one_at_most}
use Rattle.archive_settling.proofs.lined.lined_volumes.Goals as goal

first_among : (spot : Spot) (behind : List Spot) → Contains (spot ∷ behind) spot
first_among spot behind = (0, omega arith, refl)

behind_among : (first : Spot) (behind : List Spot) (spot : Spot) → Contains behind spot → Contains (first ∷ behind) spot
behind_among first behind spot has = (suc has.0, omega (arith, has.1), has.2)

pub spots-preserved : goal.spots-preserved
spots-preserved c =
    let rest = c.in-Some.ensures.cases.0 in
    record {
      few = omega (arith, c.spots.invariant.few, c.if-lined-sealed.false, one_at_most c.is_lined.result c.one_if-lined.result c.one_if-lined.ensures);
      lined = lined_next c.args.spots.now c.spots.lined c.in-Some.spot.now
          (c.spots.invariant.among c.in-Some.spot.now
          (subst (λ (l : List Spot). Contains l c.in-Some.spot.now) (sym rest) (first_among c.in-Some.spot.now c.in-Some.behind.now)))
          c.is_lined.result c.is_lined.ensures c.one_if-lined.result c.one_if-lined.ensures c.spots.invariant.lined;
      among = λ spot has. c.spots.invariant.among spot
          (subst (λ (l : List Spot). Contains l spot) (sym rest) (behind_among c.in-Some.spot.now c.in-Some.behind.now spot has));
    }
