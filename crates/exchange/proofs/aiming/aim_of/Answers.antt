-- An `http` target that isn't accepted is aimed as another target.
use Rattle.std.proofs.Common.{◌≡◌, false, codes, sym, ap, ◌∙◌, subst, rules}
use Rattle.std.specs.Str.{bytes_eq}
use Rattle.capture.specs.Target.{is_accepted_uri}
use Rattle.exchange.specs.Aim.{IsAim, aim_of}
use Rattle.exchange.proofs.AimLemmas.{aim_of-unaccepted}
use Rattle.exchange.proofs.aiming.aim_of.Goals as goal

pub returns-in-Ok-None-clause-aim : goal.returns-in-Ok-None-clause-aim
returns-in-Ok-None-clause-aim c =
    let other : bytes_eq c.args.head.now.method (codes "CONNECT") ≡ false = search rules in
    let refused : is_accepted_uri c.as_slice-target.result.now ≡ false = rw c.in-Ok-None.field-0-is at c.in-Ok-None.ensures.value in
    subst (λ expected. IsAim expected c.aim_of_other.result) (sym (ap (aim_of c.args.site.now c.args.head.now.method) (sym c.as_slice-target.ensures) ∙ aim_of-unaccepted c.args.site.now c.args.head.now.method c.as_slice-target.result.now other refused)) c.aim_of_other.ensures.aim
