use Rattle.std.specs.List.{All}
use Rattle.vault.specs.Members.{IsMember}
use Rattle.bench_vault.proofs.passes.seat_all.Given as goal

-- the passes that are left are the vault's
abbrev pub invariant-seating : goal.invariant-seating
invariant-seating g l = All (λ p. IsMember g.J.Naming.vault p.known) l.passes.items
