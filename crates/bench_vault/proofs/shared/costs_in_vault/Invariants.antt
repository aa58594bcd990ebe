use Rattle.bench_vault.proofs.shared.costs_in_vault.Given as goal

-- the vault that was just made
abbrev pub ghosts-in_vault : goal.ghosts-in_vault
ghosts-in_vault g a = record { vault = a.unnamed }
