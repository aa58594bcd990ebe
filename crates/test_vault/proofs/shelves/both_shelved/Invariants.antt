use Rattle.test_vault.proofs.shelves.both_shelved.Given as goal

-- the vault that was just made
abbrev pub ghosts-stored_by_shelves : goal.ghosts-stored_by_shelves
ghosts-stored_by_shelves g a = record { vault = a.unnamed }
