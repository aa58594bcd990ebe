use Rattle.case_tables.proofs.entries.nearest_to.Given as goal

abbrev pub ghosts-number_of_nearest : goal.ghosts-number_of_nearest
ghosts-number_of_nearest a = record { name = a.blank.name; parts = a.blank.parts }
