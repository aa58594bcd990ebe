use Rattle.std.proofs.Common.{◌≡◌, ℕ, ◌-◌, Some, sym, ◌∙◌, arith, get_or}
use Rattle.std.specs.Prelude.{slice_get}
use Rattle.std.proofs.lemmas.Option.{slice_get-get_or}
use Rattle.archive_volumes.specs.declared.spot.Spot.{Spot}
use Rattle.archive_reading.proofs.PieceFronts.{agree, differ, first_behind, first_of_all, none_behind, spot_there}
use Rattle.archive_reading.proofs.pieces.is_first.Goals as goal

pub returns-then-number-eq0-clause-first : goal.returns-then-number-eq0-clause-first
returns-then-number-eq0-clause-first c = λ told book spot are here.
    first_of_all book c.args.spots.now are c.args.number spot here c.if-number-eq0.true

pub returns-clause-first : goal.returns-clause-first
returns-clause-first c = λ told book spot are here.
    let number : ℕ = c.args.number in
    let before : Spot = get_or c.args.spots.now (number - 1) spot in
    let at : slice_get c.args.spots.now (number - 1) ≡ Some before = slice_get-get_or c.args.spots.now (number - 1) spot (omega (arith, c.requires)) in
    let was : c.volume_at-before.result ≡ before.volume = c.volume_at-before.ensures before at in
    let own : c.volume_at-own.result ≡ spot.volume = c.volume_at-own.ensures spot here in
    first_behind book c.args.spots.now are number spot here before at (omega (arith, c.if-number-eq0.false))
    (λ e. differ c.volume_at-before.result c.volume_at-own.result told (was ∙ e ∙ sym own))

pub returns-clause-other : goal.returns-clause-other
returns-clause-other c = λ told book are k is.
    let number : ℕ = c.args.number in
    let spots = c.args.spots.now in
    let one = spot_there spots number c.requires in
    let prior = spot_there spots (number - 1) (omega (arith, c.requires)) in
    none_behind book spots are number one.0 one.1 prior.0 prior.1 (omega (arith, c.if-number-eq0.false))
    (sym (c.volume_at-before.ensures prior.0 prior.1) ∙ agree c.volume_at-before.result c.volume_at-own.result told ∙ c.volume_at-own.ensures one.0 one.1) k is
