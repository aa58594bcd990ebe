use Rattle.vault_lists.proofs.finding.nearest.Given as goal

abbrev pub ghosts-nearest_by : goal.ghosts-nearest_by
ghosts-nearest_by a = record { name = a.blank.name; parts = a.blank.parts }
