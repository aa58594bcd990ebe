use Rattle.std.proofs.Common.{ℕ, ◌<◌, ◌∙◌, ap, subst, sym}
use Rattle.vault.specs.Members.{VaultName}
use Rattle.vault.proofs.MemberLaws.{members_all}
use Rattle.bench_vault.proofs.vaults.begun.Goals as goal

pub returns-clause-passes : goal.returns-clause-passes
returns-clause-passes g c = members_all g.J.Naming.vault c.named.result.1.items c.named.ensures.passes

pub returns-clause-some : goal.returns-clause-some
returns-clause-some g c =
    subst (λ (n : ℕ). 0 < n) (ap (λ (v : VaultName). v.passes) c.requires.name ∙ sym c.named.ensures.passes.count) c.requires.some
