-- The last address is replaced where another one goes before it, and else stays.
use Rattle.std.proofs.Common.{◌-◌, [], ◌∷◌, ◌++◌, length, set, refl, ap, ◌∙◌, arith}
use Rattle.std.specs.Prelude.{cond}
use Rattle.std.proofs.lemmas.List.{length-append}
use Rattle.system_network.proofs.AddressLaws.{last_replaced}
use Rattle.system_network.proofs.sockets.put_last.Goals as goal

pub returns-then-goes_last-clause-none : goal.returns-then-goes_last-clause-none
returns-then-goes_last-clause-none c = λ e. absurd (omega (arith, c.if-goes_last.ensures.some refl, ap length e))

pub returns-then-goes_last-clause-last : goal.returns-then-goes_last-clause-last
returns-then-goes_last-clause-last c =
    λ before last e. ap (λ xs. set xs (length xs - 1) c.args.address) e
    ∙ last_replaced before last c.args.address (length (before ++ last ∷ []) - 1) (omega (arith, length-append before (last ∷ [])))
    ∙ ap (λ goes. before ++ cond goes c.args.address last ∷ []) (c.if-goes_last.ensures.last before last e)

pub returns-else-goes_last-clause-last : goal.returns-else-goes_last-clause-last
returns-else-goes_last-clause-last c =
    λ before last e. e ∙ ap (λ goes. before ++ cond goes c.args.address last ∷ []) (c.if-goes_last.ensures.last before last e)
