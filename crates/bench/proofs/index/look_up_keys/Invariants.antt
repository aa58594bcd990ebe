use Rattle.bench.proofs.index.look_up_keys.Given as goal

abbrev pub ghosts-found_of : goal.ghosts-found_of
ghosts-found_of g a = record { name = a.blank.name; parts = a.blank.parts }
