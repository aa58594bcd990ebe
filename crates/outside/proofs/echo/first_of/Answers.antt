use Rattle.std.proofs.Common.{◌≡◌, ◌==◌, ◌≤◌, List, Bool, None, not, length, arith, sym, ◌∙◌}
use Rattle.std.specs.List.{position, position_or_len}
use Rattle.std.proofs.lemmas.Bool.Decides.{nat_tests}
use Rattle.std.proofs.lemmas.List.Sums.{prefix_len-le-length}
use Rattle.outside.proofs.echo.first_of.Goals as goal

-- where nothing passes, the first place that passes is the length
nowhere : {X : Type 0} (p : X → Bool) (xs : List X) → position p xs ≡ None → length xs ≡ position_or_len p xs
nowhere p xs none =
    let within : position_or_len p xs ≤ length xs = prefix_len-le-length (λ x. not (p x)) xs in
    grind (arith, nat_tests)

pub returns-in-None-clause-place : goal.returns-in-None-clause-place
returns-in-None-clause-place c =
    nowhere (λ byte. byte == c.args.stop) c.args.text.now (sym c.find.ensures ∙ c.in-None.is)
