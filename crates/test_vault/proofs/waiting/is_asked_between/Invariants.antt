use Rattle.test_vault.proofs.waiting.is_asked_between.Given as goal

-- the vault that was just made
abbrev pub ghosts-met : goal.ghosts-met
ghosts-met g a = record { vault = a.unnamed }
