use Rattle.bench_vault.proofs.passes.by_passes.Given as goal

-- the vault that was just made
abbrev pub ghosts-served_in : goal.ghosts-served_in
ghosts-served_in g a = record { vault = a.unnamed }
