use Rattle.test_vault.proofs.turns.both_stored.Given as goal

-- the vault that was just made
abbrev pub ghosts-stored_in_threads : goal.ghosts-stored_in_threads
ghosts-stored_in_threads g a = record { vault = a.unnamed }
