-- The last of some addresses and those before it are read off in one way.
use Rattle.std.proofs.Common.{not, ◌&&◌, [], ◌∷◌, length, sym, ap, ◌∙◌, arith}
use Rattle.std.proofs.lemmas.List.{length-append}
use Rattle.system_network.specs.Addresses.{has_kin}
use Rattle.system_network.proofs.AddressLaws.{same_end}
use Rattle.system_network.proofs.sockets.goes_last.Goals as goal

pub returns-in_default-clause-last : goal.returns-in_default-clause-last
returns-in_default-clause-last c =
    λ before last e. absurd (omega (arith, c.in_default.ensures.cases, ap length e, length-append before (last ∷ [])))

pub returns-then-has_kin-clause-last : goal.returns-then-has_kin-clause-last
returns-then-has_kin-clause-last c =
    λ before last e. let same = same_end c.in-Some.before.now before c.in-Some.last.now last (sym c.in-Some.ensures.cases.0 ∙ e) in
    ap (λ kin. not kin && has_kin before last) (c.if-has_kin.ensures ∙ ap (λ xs. has_kin xs c.args.address) same.0)

pub returns-clause-last : goal.returns-clause-last
returns-clause-last c =
    λ before last e. let same = same_end c.in-Some.before.now before c.in-Some.last.now last (sym c.in-Some.ensures.cases.0 ∙ e) in
    c.has_kin-2.ensures
    ∙ (λ i. has_kin (same.0 i) (same.1 i))
    ∙ ap (λ kin. not kin && has_kin before last) (c.if-has_kin.ensures ∙ ap (λ xs. has_kin xs c.args.address) same.0)
